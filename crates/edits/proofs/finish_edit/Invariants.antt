use Rattle.std.proofs.Common.{◌-◌, ◌≡◌, length, set}
use Rattle.edits.specs.Edits.{finish_edit_words, remove_all}
use Rattle.edits.proofs.finish_edit.Given as goal

abbrev pub invariant-loop-i : goal.invariant-loop-i
invariant-loop-i l = (set (remove_all l.ws l.i (l.dead - l.i)) 17 0 ≡ finish_edit_words l.initial.ws) × (length l.ws ≡ length l.initial.ws)
