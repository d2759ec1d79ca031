-- Parts stored in another order than they stand in: the bytes are the same.
use Rattle.std.specs.Prelude.{ℕ, ◌+◌, ◌≤◌, ◌≡◌, List, ◌++◌, length}
use Rattle.std.proofs.Common.{ap, ◌∙◌, append_assoc, arith, length-append}
use Rattle.store.specs.Store.{store}
use Rattle.wires_means.specs.Stores.{length_store, store_then, store_apart}

-- the second part last: after the third
pub store_between : (out : List ℕ) (at : ℕ) (xs ys zs : List ℕ) → at + (length xs + (length ys + length zs)) ≤ length out
    → store (at + length xs) ys (store (at + length xs + length ys) zs (store at xs out)) ≡ store at (xs ++ (ys ++ zs)) out
store_between out at xs ys zs room =
    let l = length_store out at xs (omega arith) in
    let a = length-append ys zs in
    store_apart (store at xs out) (at + length xs + length ys) (at + length xs) zs ys (omega arith) (omega arith)
    ∙ store_then (store at xs out) (at + length xs) ys zs (omega arith) ∙ store_then out at xs (ys ++ zs) (omega arith)

-- a net: its name and mark, the number of free wires, the counts, the free wires, the nodes, at last the wire counter
pub net_layers : (out : List ℕ) (at : ℕ) (name wires count free pairs many nodes : List ℕ)
    → at + (length name + (length wires + (length count + (length free + (length pairs + (length many + length nodes)))))) ≤ length out
    → (v k f c d n : ℕ) → v ≡ at + length name → k ≡ v + length wires → f ≡ k + length count → c ≡ f + length free → d ≡ c + length pairs → n ≡ d + length many
    → store v wires (store n nodes (store f free (store d many (store c pairs (store k count (store at name out))))))
    ≡ store at (name ++ (wires ++ (count ++ (free ++ (pairs ++ (many ++ nodes)))))) out
net_layers out at name wires count free pairs many nodes room v k f c d n ev ek ef ec ed en =
    let x0 = store at name out in
    let l0 = length_store out at name (omega arith) in
    let x1 = store k count x0 in
    let l1 = length_store x0 k count (omega arith) in
    let a1 = length-append pairs many in
    let a2 = length-append count free in
    let a3 = length-append (count ++ free) (pairs ++ many) in
    let a4 = length-append (count ++ free ++ (pairs ++ many)) nodes in
    let counts : store d many (store c pairs x1) ≡ store c (pairs ++ many) x1 = rw ed (store_then x1 c pairs many (omega arith)) in
    let frees : store f free (store c (pairs ++ many) x1) ≡ store c (pairs ++ many) (store k (count ++ free) x0)
    = store_apart x1 c f (pairs ++ many) free (omega arith) (omega arith) ∙ ap (store c (pairs ++ many)) (rw ef (store_then x0 k count free (omega arith))) in
    let c_is : c ≡ k + length (count ++ free) = omega arith in
    let all : store c (pairs ++ many) (store k (count ++ free) x0) ≡ store k (count ++ free ++ (pairs ++ many)) x0 = rw c_is (store_then x0 k (count ++ free) (pairs ++ many) (omega arith)) in
    let n_is : n ≡ k + length (count ++ free ++ (pairs ++ many)) = omega arith in
    let last : store n nodes (store k (count ++ free ++ (pairs ++ many)) x0) ≡ store k (count ++ free ++ (pairs ++ many) ++ nodes) x0
    = rw n_is (store_then x0 k (count ++ free ++ (pairs ++ many)) nodes (omega arith)) in
    let inner : store n nodes (store f free (store d many (store c pairs x1))) ≡ store k (count ++ free ++ (pairs ++ many) ++ nodes) x0
    = ap (λ (o : List ℕ). store n nodes (store f free o)) counts ∙ ap (store n nodes) (frees ∙ all) ∙ last in
    let outer : store v wires (store k (count ++ free ++ (pairs ++ many) ++ nodes) x0) ≡ store at (name ++ (wires ++ (count ++ free ++ (pairs ++ many) ++ nodes))) out
    = rw (ek, ev) (store_between out at name wires (count ++ free ++ (pairs ++ many) ++ nodes) (omega arith)) in
    let order : count ++ free ++ (pairs ++ many) ++ nodes ≡ count ++ (free ++ (pairs ++ (many ++ nodes))) = simp append_assoc in
    ap (store v wires) inner ∙ outer ∙ ap (λ (b : List ℕ). store at (name ++ (wires ++ b)) out) order
