use native.Mathlib.Nat.{sub-zero}
use Rattle.std.proofs.Common.{◌-◌, ◌<◌, ◌≡◌, ◌+◌, ◌≤◌, refl, arith, rules}
use Rattle.rule_sets.specs.Sets as spec
use Rattle.rule_sets.specs.Steps.{bit_next, rules_more, rules_done}
use Rattle.rule_sets.proofs.add_rules.Goals as goal

pub loop-r-init : goal.loop-r-init
unfolding spec.bit_of
loop-r-init c = (rw sub-zero refl, refl, search rules)

pub loop-r-preserved : goal.loop-r-preserved
loop-r-preserved c =
    let more : 0 < c.args.count - c.loop-r.r = omega arith in
    let next : c.args.count - (c.loop-r.r + 1) ≡ c.args.count - c.loop-r.r - 1 = omega arith in
    let l = c.loop-r in (
      rw next (rules_more _ _ _ _ _ _ _ _ _ _ l.invariant.0 l.invariant.1 more c.put.ensures c.add_rule.ensures c.rule_end-at.ensures),
      bit_next _ _ _ l.invariant.1 c.wrapping_add_u64-bit.ensures.value,
      omega arith,
    )

pub returns : goal.returns
returns c =
    let done : c.args.count - c.loop-r.r ≤ 0 = omega arith in
    search rules_done
