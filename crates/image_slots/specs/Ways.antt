-- What `name_stands` answers on each of its ways out.
use Rattle.std.specs.Prelude.{ℕ, ◌≡◌, refl, true, false, List, Option, Some, None, is_some}
use Rattle.std.proofs.Math.Path.{sym}
use Rattle.std.proofs.Common.{ap, ◌∙◌}
use Rattle.net_file.specs.Read.{read_name}
use Rattle.walk.specs.After.{after}
use Rattle.image_slots.specs.Slots.{is_read, name_stands}

module _ (file : List ℕ) (paths names at : ℕ) where
  pub name_read : (r : Option ℕ) (e : ℕ) → r ≡ after at (read_name paths names) file → r ≡ Some e → true ≡ name_stands file paths names at
  unfolding name_stands is_read
  name_read r e er h = sym (ap is_read (sym er ∙ h))

  pub name_bad : (r : Option ℕ) → r ≡ after at (read_name paths names) file → r ≡ None → false ≡ name_stands file paths names at
  unfolding name_stands is_read
  name_bad r er h = sym (ap is_read (sym er ∙ h))

  pub name_told : (r : Option ℕ) → r ≡ after at (read_name paths names) file → is_some r ≡ name_stands file paths names at
  name_told (Some e) er = name_read (Some e) e er refl
  name_told None er = name_bad None er refl
