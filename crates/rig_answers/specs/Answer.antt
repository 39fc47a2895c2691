-- Answers as numbers, for C and Rust: a status, 0, 100 for none or the refusal's number, and a count or a position. Definitions only.
use Rattle.std.specs.Prelude.{ℕ, Bool, true, false}
use Rattle.std.specs.Prelude.{Option, None, Some}
use Rattle.format.specs.Result.{Res, refused, done}

-- the count, 0 after a refusal
abbrev pub counted : Res ℕ → ℕ
counted (done n) = n
counted (refused c) = 0

-- the status of a reading, a lookup, a search or a check: 100 for none
abbrev pub read_status : {A : Type 0} → Res (Option A) → ℕ
read_status (done (Some a)) = 0
read_status (done None) = 100
read_status (refused n) = n

-- the position or the count given, 0 for none and after a refusal
abbrev pub given : Res (Option ℕ) → ℕ
given (done (Some n)) = n
given (done None) = 0
given (refused c) = 0

-- 1 or 0, by whether a list stands
abbrev pub number_if : Bool → ℕ
number_if true = 1
number_if false = 0

abbrev pub present : {A : Type 0} → Option A → Bool
present None = false
present (Some l) = true
