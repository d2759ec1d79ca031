-- The nets by name: word 64 + name is the number of the included net of that name, and 0 where no included net has it.
use Rattle.std.specs.Prelude.{ℕ, zero, suc, ◌+◌, ◌<◌, ◌≤◌, ◌≡◌, ◌≢◌, ◌⊎◌, true, false, length, get_or, set, eqb}
use Rattle.std.proofs.Math.Path.{refl}
use Rattle.std.proofs.Common.{sym, ap, ◌∙◌, subst, inl, inr, true≢false, length-append, eqb-true, eq-eqb, arith}
use Rattle.std.proofs.Math.Option.{Option, none, some}
use mathlib.Core.List.Memᴰ
use mathlib.Core.List.{List, [], ◌∷◌, ◌++◌, Memᴰ}
use Rattle.std.proofs.Math.ListN.{length-set, get_or-map, get_or-append}
use Rattle.std.proofs.lemmas.List.{length-map}
use Rattle.std.proofs.Math.Seq.{get_or-set_same, get_or-set_other, get_or-append_seam}
use Rattle.std.proofs.Math.Decide.{dec_lt, ℕ_discrete}
use Rattle.words.specs.Choose.{if_lt, lt_yes, lt_no}
use Rattle.fields.specs.Fields.{be16}
use Rattle.layout.specs.Layout.{next, net_at_words, net_by_name}
use Rattle.load.specs.Load.{new_net_words}
use Rattle.definitions.specs.Lists.{find, from, up_to}
use Rattle.definitions.specs.Nets.{Home}
use Rattle.definitions.specs.State.{Engine, homes, net_at}
use Rattle.definitions.specs.Visit.{get_net}
use Rattle.load_laws.specs.Finds.{find_mem, find_none}
use Rattle.means.specs.Means.{no_net}
use Rattle.means.specs.Names.{net_word}
use Rattle.means.specs.Frame.{HeadWords, Keep}
use Rattle.load_means.specs.NewNet.{Spare}
use Rattle.load_means.specs.Called.{Called, by_name}

-- the word itself, for a name of the table
pub called_word : (ws : List ℕ) (e : Engine) → Called ws (homes e) → (name : ℕ) → name < 1024 → get_or ws (64 + name) 0 ≡ net_word (get_net e name)
unfolding net_by_name
called_word ws e c name h = lt_yes name 1024 (get_or ws (64 + name) 0) 0 h refl ∙ by_name ws e c name
