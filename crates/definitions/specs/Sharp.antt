-- Six small files, each of which tells one plausible error apart: with that error in a definition the theorem no longer computes.
-- must-fail/ holds the errors. Document 01, "Plausible errors to shut out".
use Rattle.std.specs.Prelude.{◌≡◌, refl}
use Rattle.definitions.specs.Text.{text, hex}
use Rattle.definitions.specs.Listing.{netlist}
use Rattle.definitions.specs.Computes.{computes}

-- a node stands at the first place of its number in the list, not at the newest: a slot used again within one net
pub first_place_kept : netlist (hex "0000007901000000020004017801790165016700010000000000000000000000000103010002020000000100010000010000000502000300040000000400020000000000000000000000000000000000000000000000000001000100010000000000000000000001010002000000000000000000000000020200030004")
    ≡ text "limit 0\nnet 0 wires 4 free 1 2\ne 0 children ports 3\nx 0 children ports 3 1 2\n"
unfolding computes
first_place_kept = refl

-- the slot freed last is taken first: P8 with limit 2
pub last_freed_first : netlist (hex "0000004f01000000020002017801790001000000000000000000000000010401000001000100010000010000000200000000020000000000000000000000000001000100010000000000000000000000010001")
    ≡ text "limit 0\nnet 0 wires 3 free\nx 0 children ports 1 2\ny 0 children ports 1 2\n"
unfolding computes
last_freed_first = refl

-- a graft's copies start clean, only those that it links become dirty. Net 0 grafts net 1, whose erasers then meet an x each
pub copies_clean : netlist (hex "000000a201ffffffff00030165017801670002000000000000000000000000000000000000000001000002010002000301000001000100020000010000000402000200030000000300010000000000000000000000010002000100000000000000000000010100030002000000000000000001000100000100010001010000000202000000010000000200000000000000000001000001000000000000000000000000000000")
    ≡ text "limit none\nnet 0 wires 3 free 1 2\ne 1 children ports 2\ne 0 children ports 1\nnet 1 wires 3 free 1 2\ne 1 children ports 2\ne 0 children ports 1\n"
unfolding computes
copies_clean = refl

-- with the limit spent nothing is tried, else the graft node without a child would give 12
pub spent_slice_stops : netlist (hex "00000060010000000100040178017901650167000100000000000000000000000002010003000201000000010000010000000201000000000003000000000000000000000000010000030000000000000000000000000000000000000000000000000100")
    ≡ text "limit 0\nnet 0 wires 2 free 1\ng 0 children ports 1\n"
unfolding computes
spent_slice_stops = refl

-- a list is tightened as each dead node goes, while the next still holds its slot. Two equal nils on c, and x against y
pub tightened_at_each_removal : netlist (hex "0000008b010000000500040163016e0178017900010000000000000000000000000205010000000100010401000201000300010000010000000501000000000005000200000000000000000000030100040001000000000000000000000200000100000000000000000000010000030000000000000000000003010004000000000000000000000000000200010002")
    ≡ text "limit 0\nnet 0 wires 4 free 1\ny 0 children ports 2 3\nn 0 children ports 1\nx 0 children ports 2 3\n"
unfolding computes
tightened_at_each_removal = refl

-- so it is in the dirty list: three nils on two c, and x against y
pub dirty_first_place_kept : netlist (hex "000000ab010000000700040163016e01780179000100000000000000000000000002050100000001000104010002010003000100000100000007020000000300000007000100000000000000000000010000010000000000000000000002000002000000000000000000000501000600010000000000000000000004000000000000000000000000000301000400030000000000000000000005010006000000000000000000000000000200010002")
    ≡ text "limit 0\nnet 0 wires 5 free 1 2\nx 0 children ports 3 4\ny 0 children ports 3 4\nn 0 children ports 2\nn 0 children ports 1\n"
unfolding computes
dirty_first_place_kept = refl
