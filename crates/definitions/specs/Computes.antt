-- One name for all that the levels compute with: `unfolding computes` opens every definition of File (flat), Graph and Engine.
use Rattle.std.specs.Prelude.{ℕ}
use Rattle.net_file.specs.Write
use Rattle.net_file.specs.Read
use Rattle.net_file.specs.Checks
use Rattle.definitions.specs.Nets
use Rattle.definitions.specs.Scripts
use Rattle.definitions.specs.Rules
use Rattle.definitions.specs.Step
use Rattle.definitions.specs.State
use Rattle.definitions.specs.Books
use Rattle.definitions.specs.Load
use Rattle.definitions.specs.Visit
use Rattle.definitions.specs.Run
use Rattle.definitions.specs.Finish
use Rattle.definitions.specs.Calls
use Rattle.definitions.specs.Text
use Rattle.definitions.specs.Listing

-- level File
unfoldable pub file_computes : ℕ
unfolding Write.be Write.counted Write.write_path Write.write_name Write.write_list Write.write_rule Write.write_node Write.write_pair Write.write_head Write.write_flat_net Write.limit_number Write.write_body Read.byte Read.number_from Read.number Read.below Read.times_from Read.times Read.many Read.read_char Read.read_path Read.read_name Read.read_bit Read.read_list Read.read_tagged Read.read_rule Read.read_node Read.read_pair Read.read_flat_net Read.limit_of Read.paths_fit Read.nodes_fit Read.read_body Checks.same_name Checks.pair_wires Checks.pairs_ordered Checks.occurs Checks.places Checks.pair_wired Checks.wire_wired Checks.flat_wired Checks.rule_paths Checks.names_free Checks.limit_fits Checks.field Checks.ordered Checks.wired Checks.free_named Checks.checked Checks.read Checks.write
file_computes = 0

-- level Graph
unfoldable pub graph_computes : ℕ
unfolding Nets.same_port Nets.is_principal Nets.at Nets.filled Nets.holds Nets.name_of Nets.arity Nets.ports Nets.aux Nets.across Nets.follow Scripts.wire Scripts.cut Scripts.ends Scripts.join Scripts.fill Scripts.vacate Scripts.apply Scripts.apply_script Rules.new Rules.hang Rules.annihilate_script Rules.erase_script Rules.commute_script Rules.eta_values Rules.straight Rules.nil_pair Rules.eta_cuts Rules.eta_nils Rules.eta_pair Rules.eta_met Rules.eta_script Rules.copy_port Rules.copies Rules.graft_script Rules.graft_fits Rules.reaches Rules.interact Step.cross Step.pairs Step.rewrites
graph_computes = 0

-- level Engine, and the listing
unfoldable pub engine_computes : ℕ
unfolding State.with_slots State.with_dirty State.with_nets State.with_steps State.with_graph State.with_mark State.with_stale State.with_list State.with_pending State.with_awaiting State.net_at State.over_net State.more State.fewer State.entries State.waits Books.grown Books.push Books.tight Books.loose Books.is_dirty Books.tighten_dirty Books.tighten_net Books.push_dirty Books.mark_dirty Books.fresh Books.placed Books.add_node Books.mark_ends Books.link Books.edit Books.vacated Books.went_dirty Books.remove_node Books.finish_edit Books.wake Books.answer Books.finish_edit_net Load.with_free_path Load.free_name Load.canonical Load.ends_at Load.join_met Load.load_nodes Load.load_net Load.add_flat_net Load.empty Load.included Load.load Visit.less_one Visit.act Visit.act_if Visit.await_net Visit.graft_net Visit.get_net Visit.graft_named Visit.graft_child Visit.try_graft Visit.try_pair Visit.interactions Visit.tries Visit.try_rewrite Visit.attempt Visit.attempts Visit.visit Run.leave Run.turn Run.with_items Run.spent Run.next Run.run Run.fuel Run.run_slice Finish.lower Finish.wire_at Finish.wires_met Finish.wire_number Finish.flat_node Finish.live_nodes Finish.flat_net Finish.finish_net Finish.result Calls.pools_fit Calls.same_pools Calls.accept Calls.resume Calls.deliver Calls.begin Calls.slice Calls.finish Calls.optimized Calls.optimize Calls.written Calls.after Text.text Text.digits Text.decimal Text.line Text.hex_digit Text.hex_bytes Text.hex Listing.node_line Listing.net_lines Listing.limit_field Listing.listing Listing.printed Listing.listed Listing.netlist
engine_computes = 0

-- all of it
unfoldable pub computes : ℕ
unfolding file_computes graph_computes engine_computes
computes = 0
