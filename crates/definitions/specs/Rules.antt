-- Level Graph, 3: the five rules of `common.rs`. Each, where it can act, gives its script, edits in the source's order.
-- `fresh k` is the number that the k-th new node gets.
use Rattle.std.specs.Prelude.{ℕ, zero, suc, ◌+◌, ◌-◌, Bool, true, false, not, ◌&&◌, ◌||◌, List, [], ◌∷◌, ◌++◌, map, length, get_or, drop, replicate, eqb}
use Rattle.std.proofs.Math.Option.{Option, none, some}
use Rattle.net_file.specs.Lists.{all, concat_map}
use Rattle.net_file.specs.Values.{Name, Rule, graft, annihilate, erase, commute, eta}
use Rattle.net_file.specs.Checks.{same_name}
use Rattle.definitions.specs.Lists.{given, find, place, concat, zip_with, up_to, has}
use Rattle.definitions.specs.Nets.{Port, Node, Graph, port, same_port, is_principal, at, name_of, arity, ports, aux, follow}
use Rattle.definitions.specs.Scripts.{Edit, Insert, Copy, Join, Cut, Script}

-- a node whose ports are all holes
unfoldable pub new : ℕ → Name → ℕ → Node
new net name len = record { net = net; name = name; ports = replicate len none }

module _ (fresh : ℕ → ℕ) (g : Graph) where
  -- the k-th new node comes, and its principal port is joined with p
  unfoldable pub hang : ℕ → Node → Port → List Edit
  hang k x p = Insert (fresh k) x ∷ Join p (port (fresh k) 0) ∷ []

  -- equal names and as many ports: each port of a is joined with b's
  unfoldable pub annihilate_script : ℕ → ℕ → Option Script
  annihilate_script a b =
      given (same_name (name_of g a) (name_of g b) && eqb (arity g a) (arity g b))
      (record { edits = zip_with Join (ports g a) (ports g b); dead = a ∷ b ∷ [] })

  -- e has no aux ports: each aux port of n gets an eraser
  unfoldable pub erase_script : ℕ → ℕ → Option Script
  erase_script e n =
      let eraser = new (at g e).net (name_of g e) 1 in
      given (eqb (arity g e) 1)
      (record {
        edits = Cut (port e 0) (port n 0) ∷ concat_map (λ i. hang i eraser (port n (1 + i))) (up_to (arity g n - 1));
        dead = e ∷ n ∷ [];
      })

  -- new node i < m is the copy of b at a's aux port i, new node m + j that of a at b's aux port j; they are joined crosswise
  unfoldable pub commute_script : ℕ → ℕ → Option Script
  commute_script a b =
      let m = arity g a - 1 in
      let row : ℕ → List Edit = λ i. hang i (new (at g a).net (name_of g b) (arity g b)) (port a (1 + i)) in
      let column : ℕ → List Edit = λ j.
      hang (m + j) (new (at g a).net (name_of g a) (arity g a)) (port b (1 + j))
      ++ map (λ i. Join (port (fresh (m + j)) (1 + i)) (port (fresh i) (1 + j))) (up_to m) in
      some (record {
        edits = Cut (port a 0) (port b 0) ∷ concat_map row (up_to m) ++ concat_map column (up_to (arity g b - 1));
        dead = a ∷ b ∷ [];
      })

  -- each aux port meets a node of one port, all of one name, a value's: one such node comes in place of all
  unfoldable pub eta_values : List ℕ → ℕ → Option Script
  eta_values values a =
      let met = map (follow g) (aux g a) in
      let ns = map (λ q. q.node) met in
      let name = name_of g (get_or ns 0 0) in
      given (all (λ n. eqb (arity g n) 1) ns && has values name.path && all (λ n. same_name (name_of g n) name) ns)
      (record { edits = zip_with Cut (aux g a) met ++ hang 0 (new (at g a).net name 1) (port a 0); dead = a ∷ ns })

  -- p and q face each other
  unfoldable pub straight : Port → Port → Bool
  straight p q = same_port (follow g p) q

  -- each meets a node of one port, both of one name, a nil's
  unfoldable pub nil_pair : List ℕ → Port → Port → Bool
  nil_pair nils p q =
      let m = (follow g p).node in
      let n = (follow g q).node in
      eqb (arity g m) 1 && eqb (arity g n) 1 && same_name (name_of g m) (name_of g n) && has nils (name_of g m).path

  -- the wire between them, or those to their nils, is cut
  unfoldable pub eta_cuts : Port → Port → List Edit
  eta_cuts p q = elim (straight p q) [ true ↦ Cut p q ∷ [] | false ↦ Cut p (follow g p) ∷ Cut q (follow g q) ∷ [] ]

  -- the nils that go
  unfoldable pub eta_nils : Port → Port → List ℕ
  eta_nils p q = elim (straight p q) [ true ↦ [] | false ↦ (follow g p).node ∷ (follow g q).node ∷ [] ]

  -- a and b of one name, aux against aux: straight, or a nil pair. Their principal ports are joined
  unfoldable pub eta_pair : List ℕ → ℕ → ℕ → Option Script
  eta_pair nils a b =
      given (eqb (arity g a) (arity g b) && same_name (name_of g a) (name_of g b)
      && all (λ t. t) (zip_with (λ p q. straight p q || nil_pair nils p q) (aux g a) (aux g b)))
      (record {
        edits = Join (port a 0) (port b 0) ∷ concat (zip_with eta_cuts (aux g a) (aux g b));
        dead = a ∷ b ∷ concat (zip_with eta_nils (aux g a) (aux g b));
      })

  -- if every aux port meets a principal port, values; else a pair with the node that the first other meets
  unfoldable pub eta_met : List ℕ → List ℕ → ℕ → Option Port → Option Script
  eta_met values nils a none = eta_values (values ++ nils) a
  eta_met values nils a (some q) = eta_pair nils a q.node

  -- without aux ports it does not act
  unfoldable pub eta_script : List ℕ → List ℕ → ℕ → Option Script
  eta_script values nils a = elim (aux g a) [
    | [] ↦ none
    | p ∷ ps ↦ eta_met values nils a (find (λ q. not (is_principal q)) (map (follow g) (p ∷ ps)))
  ]

  -- the copy of a port of one of the nodes `ids`
  unfoldable pub copy_port : List ℕ → Option Port → Option Port
  copy_port ids none = none
  copy_port ids (some p) = some (port (fresh (place (eqb p.node) ids)) p.index)

  -- the copies of the nodes `ids` in net `into`, in order, wired as those are
  unfoldable pub copies : List ℕ → ℕ → List Edit
  copies ids into = zip_with
      (λ k n. Copy (fresh k) (record { net = into; name = name_of g n; ports = map (copy_port ids) (at g n).ports }))
      (up_to (length ids)) ids

  -- a net with the nodes `ids` and the free node `free` is copied in place of a: the copied free node's ports 0 and 1 vanish,
  -- its others are joined with a's
  unfoldable pub graft_script : List ℕ → ℕ → ℕ → Script
  graft_script ids free a =
      let f = fresh (place (eqb free) ids) in
      record {
        edits = copies ids (at g a).net
            ++ Join (port f 0) (port f 1) ∷ zip_with Join (map (port f) (drop 2 (up_to (arity g free)))) (ports g a);
        dead = f ∷ a ∷ [];
      }

-- a's ports are as many as the free ports at `free`
unfoldable pub graft_fits : Graph → ℕ → ℕ → Bool
graft_fits g free a = eqb (arity g free) (2 + arity g a)

-- a lazy graft's principal port must meet a principal port
unfoldable pub reaches : Graph → Bool → ℕ → Bool
reaches g lazy a = not lazy || is_principal (follow g (port a 0))

-- an interaction's script on two nodes, in the order of the pair registered
unfoldable pub interact : Rule → (ℕ → ℕ) → Graph → ℕ → ℕ → Option Script
interact (graft p lazy) fresh g a b = none
interact (annihilate ps) fresh g a b = annihilate_script fresh g a b
interact (erase es ns) fresh g a b = erase_script fresh g a b
interact (commute xs ys) fresh g a b = commute_script fresh g a b
interact (eta cs vs ns) fresh g a b = none
