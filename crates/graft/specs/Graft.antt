-- The rule graft on the words: common.rs, `graft`; engine.rs, `graft_net`. Level Words.
use Rattle.std.specs.Prelude.{ℕ, zero, suc, ◌+◌, ◌*◌, ◌%◌, Bool, List}
use Rattle.words.specs.Choose.{pick, if_eq, if_lt}
use Rattle.words.specs.Left.{Left}
use Rattle.layout.specs.Layout.{next, net_by_name, net_word_words, node_word, set_node_word, entry_word, across, set_across, principal, node_of, is_principal_words}
use Rattle.graph.specs.Graph.{link, link_all, remove_node}
use Rattle.lists.specs.Lists.{tighten_net_words}
use Rattle.waits.specs.Waits.{await_net_words}
use Rattle.waits.specs.declared.Awaited.{Awaited}
use Rattle.waits.specs.declared.Awaited.TheVariants.{Ready, Waiting, Full}
use Rattle.edits.specs.Edits.{on_placed, place_node}
use Rattle.node_names.specs.Names.{child_count, first_child}
use Rattle.tried.specs.Tries.{spent, arity, name}
use Rattle.tried.specs.declared.Tried.{Tried}
use Rattle.tried.specs.declared.Tried.TheVariants.{Passed, Acted, Refused}

-- ---- copies

-- a copy of node n in net t, clean, all its ports holes; the clone map has its number. 0, or the number by which it is refused
unfoldable pub copy_node : List ℕ → ℕ → ℕ → Left ℕ
copy_node ws t n =
    let p = place_node ws t (name ws n) (arity ws n) in
    on_placed p.is (λ m. record { is = 0; ws = set_node_word p.ws n 5 m }) (λ r. record { is = r; ws = p.ws })

-- copies of the nodes of k entries from entry c on, "in list order"
unfoldable pub copy_entries : List ℕ → ℕ → ℕ → ℕ → Left ℕ
copy_entries ws t c zero = record { is = 0; ws = ws }
copy_entries ws t c (suc k) =
    let a = copy_node ws t (entry_word ws c 0) in
    let rest = copy_entries a.ws t (entry_word a.ws c 1) k in
    if_lt 0 a.is a rest

-- copies of the nodes in net m's list
unfoldable pub copy_nodes : List ℕ → ℕ → ℕ → Left ℕ
copy_nodes ws m t = copy_entries ws t (net_word_words ws m 2) (net_word_words ws m 4)

-- the copy of node n
abbrev pub copy_of : List ℕ → ℕ → ℕ
copy_of ws n = node_word ws n 5

-- the same port of the copy of its node
unfoldable pub copied_port : List ℕ → ℕ → ℕ
copied_port ws p = (32 * copy_of ws (node_of p) + p % 32) % 4294967296

-- k ports from y on are wired as those from x on, in the copies
unfoldable pub wire_ports : List ℕ → ℕ → ℕ → ℕ → List ℕ
wire_ports ws x y zero = ws
wire_ports ws x y (suc k) = wire_ports (set_across ws y (copied_port ws (across ws x))) (next x) (next y) k

-- the copy of node n is wired
unfoldable pub wire_copy : List ℕ → ℕ → List ℕ
wire_copy ws n = wire_ports ws (principal n) (principal (copy_of ws n)) (arity ws n)

-- the copies of the nodes of k entries from entry c on
unfoldable pub wire_entries : List ℕ → ℕ → ℕ → List ℕ
wire_entries ws c zero = ws
wire_entries ws c (suc k) =
    let w = wire_copy ws (entry_word ws c 0) in
    wire_entries w (entry_word w c 1) k

-- the copies of the nodes in net m's list
unfoldable pub wire_copies : List ℕ → ℕ → List ℕ
wire_copies ws m = wire_entries ws (net_word_words ws m 2) (net_word_words ws m 4)

-- ---- the graft

-- the copied free node f gives way to node n: its own wire goes, its k other ports are joined with those of n
unfoldable pub give_way : List ℕ → ℕ → ℕ → ℕ → List ℕ
give_way ws f n k =
    let p = principal f in
    let w = link (remove_node ws f) p (next p) in
    link_all (remove_node w n) (next (next p)) (principal n) k

-- 13: "graft node's ports differ in number from the named net's free ports"
unfoldable pub join_ports : List ℕ → ℕ → ℕ → Left Tried
join_ports ws f n = if_eq (arity ws f) (arity ws n + 2) (record { is = Acted; ws = give_way ws f n (arity ws n) }) (record { is = Refused 13; ws = ws })

-- the copy of net m's free node
unfoldable pub copied_free : List ℕ → ℕ → ℕ
copied_free ws m = copy_of ws (net_word_words ws m 1)

-- the named net's list is tightened "always, before it copies in list order"; 13 "after a graft's copies are made"
unfoldable pub graft_net_words : List ℕ → ℕ → ℕ → ℕ → Left Tried
graft_net_words ws m t n =
    let a = copy_nodes (tighten_net_words ws m) m t in
    let w = wire_copies a.ws m in
    if_lt 0 a.is (record { is = Refused a.is; ws = a.ws }) (join_ports w (copied_free w m) n)

-- by what awaiting a net answered
unfoldable pub on_awaited : {A : Type 0} → Awaited → A → A → A → A
on_awaited Ready ready waiting full = ready
on_awaited Waiting ready waiting full = waiting
on_awaited Full ready waiting full = full

-- net m is at 0: 14 "comes before a slot is taken"
unfoldable pub graft_ready : List ℕ → ℕ → ℕ → ℕ → Left Tried
graft_ready ws m t n = pick (spent ws) (record { is = Refused 14; ws = ws }) (graft_net_words ws m t n)

-- a net is grafted when its pending is 0; until then node n waits
unfoldable pub graft_named_words : List ℕ → ℕ → ℕ → ℕ → Left Tried
graft_named_words ws m t n =
    let a = await_net_words ws m n in
    on_awaited a.is (graft_ready a.ws m t n) (record { is = Passed; ws = a.ws }) (record { is = Refused 11; ws = a.ws })

-- 12 where there is no first child; a name of no included net is passed over
unfoldable pub graft_child_words : List ℕ → List ℕ → ℕ → ℕ → Left Tried
graft_child_words ws file t n =
    let m = net_by_name ws (first_child file (name ws n)) in
    if_eq (child_count file (name ws n)) 0 (record { is = Refused 12; ws = ws }) (if_eq m 0 (record { is = Passed; ws = ws }) (graft_named_words ws m t n))

-- a lazy one acts only where its principal port meets a principal port
unfoldable pub graft : List ℕ → List ℕ → Bool → ℕ → ℕ → Left Tried
graft ws file lazy t n =
    let r = graft_child_words ws file t n in
    pick lazy (pick (is_principal_words (across ws (principal n))) r (record { is = Passed; ws = ws })) r
