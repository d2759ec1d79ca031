use Rattle.std.proofs.Common.{arith}
use Rattle.flat_frame.specs.Nets.{full, written}
use Rattle.flat_frame.proofs.accepted.Goals as goal

pub returns-then-out-n : goal.returns-then-out-n
returns-then-out-n g c = full _ _ _ _ _ _ _ _ _ _ (λ i. omega (arith, c.shared_slice_known-1.given i)) c.whole-n.ensures.0 c.whole-n.ensures.1 (omega arith) c.clear_words.ensures

pub returns : goal.returns
returns g c =
    written _ _ _ _ _ _ _ _ _ _ (λ i. omega (arith, c.shared_slice_known-1.given i)) _ _ _ c.whole-n.ensures.0 c.whole-n.ensures.1 (omega arith) (omega arith) c.whole.ensures.0 c.whole.ensures.1
    c.clear_words-2.ensures
