-- By what checks 2 to 4 refuse a file, if they do.
use Rattle.std.specs.Prelude.{ℕ, ◌-◌, List, length, Result, Ok, Err}
use Rattle.words.specs.Choose.{if_lt, if_eq}
use Rattle.net_file.specs.Values.{max_steps, no_limit}
use Rattle.fields.specs.Fields.{byte, be32}
use Rattle.refusals.specs.declared.Refusal.{Refusal}
use Rattle.refusals.specs.declared.Refusal.TheVariants.{BadLength, BadVersion, BadLimit}

unfoldable pub limit_head : ℕ → Result (Unit {0}) Refusal
limit_head l = if_eq l no_limit (Ok tt) (if_lt max_steps l (Err BadLimit) (Ok tt))

unfoldable pub head_of : ℕ → List ℕ → Result (Unit {0}) Refusal
head_of version s =
    if_lt (length s) 5 (Err BadLength)
    (if_eq (be32 s 0) (length s - 4)
    (if_eq (byte s 4) version
    (if_lt (length s) 9 (Ok tt) (limit_head (be32 s 5)))
    (Err BadVersion))
    (Err BadLength))
