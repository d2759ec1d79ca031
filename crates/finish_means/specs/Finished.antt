-- The call `finish` on the words and bytes of an image: what `result` delivers, with zeros left; its 15 leaves the run as it is.
use Rattle.std.specs.Prelude.{ℕ, ◌≡◌, Bool, true, List, length, take}
use Rattle.std.proofs.Math.Path.{refl}
use Rattle.std.proofs.Common.{sym, ap, ◌∙◌}
use Rattle.words.specs.Choose.{pick_true}
use Rattle.net_file.specs.Lists.{Result, ok, refuse}
use Rattle.definitions.specs.Calls.{written}
use Rattle.write_nodes.specs.Wrote.{Wrote}
use Rattle.image.specs.Image.{resumable}
use Rattle.lent.specs.Lent.{room, held_length, zero_words, zero_bytes}
use Rattle.lent.specs.declared.Pools.{Pools}
use Rattle.lent.specs.declared.Answer.{Answer}
use Rattle.lent.specs.declared.Answer.TheVariants.{Done, Refused}
use Rattle.finishing.specs.Finishing.{Given, on_answer, run_result, delivered, finish_image, finish}
use Rattle.finish_means.specs.Delivered.{Delivers}

-- a result leaves zeros; "a separate finish's 15 leaves the workspace unchanged"
abbrev pub Finishes : Pools → List ℕ → List ℕ → List ℕ → List ℕ → Given → Result (List ℕ) → Type 0
Finishes p ws bs s out x (ok r) =
    (x.is ≡ Done (length r)) × (x.out ≡ written (ok r) out) × (x.ws ≡ zero_words p (run_result ws s out).ws) × (x.bs ≡ zero_bytes (held_length ws bs) bs)
Finishes p ws bs s out x (refuse n) = (x.is ≡ Refused n) × (x.out ≡ written (refuse n) out) × (x.ws ≡ ws) × (x.bs ≡ bs)

module _ (p : Pools) (ws bs s out : List ℕ) (held : take (held_length ws bs) bs ≡ s) where
  -- what is delivered is what was answered
  delivered_gives : (d : Result (List ℕ)) → Delivers ws out (run_result ws s out) d → Finishes p ws bs s out (delivered p ws bs out) d
  unfolding delivered on_answer
  delivered_gives (ok r) d = rw (held, d.0) (refl, d.1, refl, refl)
  delivered_gives (refuse n) d = rw (held, d.0) (refl, d.1, d.2, refl)

  -- where there is room for the pools and an image
  pub finish_gives : room p ws ≡ true → resumable p.nodes p.entries p.waits ws bs ≡ true
      → (d : Result (List ℕ)) → Delivers ws out (run_result ws s out) d → Finishes p ws bs s out (finish p ws bs out) d
  unfolding finish finish_image
  finish_gives h i d x =
      rw (
        ← pick_true (room p ws) (finish_image p ws bs out) (record { is = Refused 1; ws = ws; bs = bs; out = out }) h refl,
        ← pick_true (resumable p.nodes p.entries p.waits ws bs) (delivered p ws bs out) (record { is = Refused 16; ws = ws; bs = bs; out = out }) i refl,
      ) (delivered_gives d x)
