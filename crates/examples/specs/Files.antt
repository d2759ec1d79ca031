-- The files of the checked examples P1 to P8 of document 01. "Nodes are written path(principal; aux)": `node p w ws`.
use Rattle.std.specs.Prelude.{ℕ, true, false, List, [], ◌∷◌, map}
use Prim.Native.String.{String}
use Rattle.std.proofs.Math.Option.{Option, none, some}
use Rattle.net_file.specs.Values.{Name, Rule, graft, annihilate, erase, commute, eta, FlatNode, FlatNet, File}
use Rattle.definitions.specs.Text.{text}

-- ---- short forms

abbrev pub named : ℕ → ℕ → List ℕ → Name
named p y cs = record { path = p; payload = y; children = cs }

abbrev pub node : ℕ → ℕ → List ℕ → FlatNode
node p w ws = record { name = named p 0 []; pri = w; aux = ws }

-- a graft node of path p and child c
abbrev pub child : ℕ → ℕ → ℕ → FlatNode
child p c w = record { name = named p 0 (c ∷ []); pri = w; aux = [] }

-- an included net
abbrev pub net : ℕ → ℕ → List ℕ → List FlatNode → FlatNet
net m c fs ns = record { name = m; included = true; wires = c; free = fs; pairs = []; nodes = ns }

-- names 0 and 1 of the table are path 0 with payloads 0 and 1
abbrev pub file : Option ℕ → List String → Rule → List FlatNet → File FlatNet
file l ps r ts = record { limit = l; paths = map text ps; names = named 0 0 [] ∷ named 0 1 [] ∷ []; rules = r ∷ []; nets = ts }

-- ---- the files

-- with this limit and wire counter: P1 has 5 and 3, P2 0 and 4
abbrev pub P1 : ℕ → ℕ → File FlatNet
P1 l c = record {
  limit = some l;
  paths = text "x" ∷ [];
  names = named 0 0 [] ∷ [];
  rules = annihilate (0 ∷ []) ∷ [];
  nets = net 0 c (0 ∷ 1 ∷ []) (node 0 2 (0 ∷ []) ∷ node 0 2 (1 ∷ []) ∷ []) ∷ [];
}

-- erase e on x; free 1 2, e(0), x(0; 1 2)
abbrev pub P3 : File FlatNet
P3 = file none ("e" ∷ "x" ∷ []) (erase (0 ∷ []) (1 ∷ [])) (net 0 3 (1 ∷ 2 ∷ []) (node 0 0 [] ∷ node 1 0 (1 ∷ 2 ∷ []) ∷ []) ∷ [])

-- commute x with y; free 1 2 3 4, x(0; 1 2), y(0; 3 4)
abbrev pub P4 : File FlatNet
P4 = file none ("x" ∷ "y" ∷ []) (commute (0 ∷ []) (1 ∷ []))
    (net 0 5 (1 ∷ 2 ∷ 3 ∷ 4 ∷ []) (node 0 0 (1 ∷ 2 ∷ []) ∷ node 1 0 (3 ∷ 4 ∷ []) ∷ []) ∷ [])

-- net 0 free 0 with graft node g(0) of child 0
abbrev pub P5 : File FlatNet
P5 = file (some 5) ("g" ∷ []) (graft 0 false) (net 0 1 (0 ∷ []) (child 0 0 0 ∷ []) ∷ [])

-- net 0 free 0, v(0); net 1 free 0, g(0) of child 0
abbrev pub P6 : File FlatNet
P6 = file (some 5) ("v" ∷ "g" ∷ []) (graft 1 false) (net 0 1 (0 ∷ []) (node 0 0 [] ∷ []) ∷ net 1 1 (0 ∷ []) (child 1 0 0 ∷ []) ∷ [])

-- eta on c(0; 1 2), nil n(1), n(2), free 0; the second n has payload y
abbrev pub P7 : ℕ → File FlatNet
P7 y = file (some 5) ("c" ∷ "n" ∷ []) (eta (0 ∷ []) [] (1 ∷ []))
    (net 0 3 (0 ∷ []) (node 0 0 (1 ∷ 2 ∷ []) ∷ node 1 1 [] ∷ record { name = named 1 y []; pri = 2; aux = [] } ∷ []) ∷ [])

-- commute x with y; x(0; 1), y(0; 1)
abbrev pub P8 : ℕ → File FlatNet
P8 l = file (some l) ("x" ∷ "y" ∷ []) (commute (0 ∷ []) (1 ∷ [])) (net 0 2 [] (node 0 0 (1 ∷ []) ∷ node 1 0 (1 ∷ []) ∷ []) ∷ [])
