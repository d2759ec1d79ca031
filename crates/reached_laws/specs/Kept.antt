-- What every engine reached keeps of the file: each net's number of free ports; names that fit the tables; at most 16 ports a node.
use Rattle.std.specs.Prelude.{ℕ, ◌≡◌, true, List, map, length}
use Rattle.std.proofs.Common.{ap, ◌∙◌, arith}
use Rattle.net_file.specs.Lists.{ok}
use Rattle.net_file.specs.Values.{Name, FlatNet, File}
use Rattle.net_file.specs.Checks.{flat, read}
use Rattle.net_file_laws.specs.Bytes.{Bytes}
use Rattle.definitions.specs.Nets.{Home, arity}
use Rattle.definitions.specs.State.{Pools, Engine}
use Rattle.definitions.specs.Load.{with_free_path, free_name, included}
use Rattle.definitions.specs.Calls.{pools_fit}
use Rattle.graph_laws.proofs.Rest.{step_free_kept}
use Rattle.graph_laws.specs.Nodes.{AllNodes, step_nodes}
use Rattle.step_laws.specs.Core.{core_of}
use Rattle.load_laws.specs.Begin.{Writable, FreePorts, same_map}
use Rattle.load_laws.proofs.Begin.{load_begun}
use Rattle.fuel_laws.specs.Reached.{Reached}
use Rattle.reached_laws.specs.Runs.{Begins}
use Rattle.reached_laws.specs.Counted.{reached_core}

module _ (bs : List ℕ) (bytes : Bytes bs) (f : File FlatNet) (accepted : read flat bs ≡ ok f) (p : Pools) (fits : pools_fit p ≡ true) (begins : Begins p f (free_name f.paths).path) where
  -- the free ports of each net are as many as the file's free wires
  pub reached_ports : {e : Engine} → Reached p f e → FreePorts (included f) (core_of e)
  reached_ports r = reached_core p fits f (free_name f.paths).path begins (FreePorts (included f)) (λ e q. (load_begun bs bytes f accepted p e q).ports)
      (λ c d ready one x.
      let kept = step_free_kept c.rules c.homes (free_name f.paths).path ready.unnamed c.graph d.graph ready.rest one.step in
      ap (map (λ (h : Home). arity d.graph h.free)) one.homes ∙ same_map (λ (h : Home). arity d.graph h.free) (λ (h : Home). arity c.graph h.free) c.homes kept ∙ x) r

  -- every node can be written
  pub reached_nodes : {e : Engine} → Reached p f e → AllNodes (Writable (length (with_free_path f.paths)) (length f.names)) (core_of e).graph
  reached_nodes r = reached_core p fits f (free_name f.paths).path begins (λ c. AllNodes Q c.graph) (λ e q. (load_begun bs bytes f accepted p e q).nodes)
      (λ c d ready one x. step_nodes Q (λ m s h. (h.0, omega arith)) c.rules c.homes (free_name f.paths).path c.graph d.graph ready.rest one.step x) r
    where
      Q : Name → ℕ → Type 0
      Q = Writable (length (with_free_path f.paths)) (length f.names)
