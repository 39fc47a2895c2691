-- The numbers of the refusals, and what a call of ours answers as a result of the definitions (docs/FORMAT.md, "Who can cause a refusal").
-- Definitions only.
use Rattle.std.specs.Prelude.{ℕ, Result, Ok, Err}
use Rattle.format.specs.Result.{Res, refused, done}
use Rattle.format.specs.declared.Refusal.{Refusal}
use Rattle.format.specs.declared.Refusal.TheVariants.{TableTooShort, TooManyBones, TooManyChildren, BadName, BufferTooShort}
use Rattle.format.specs.declared.Refusal.TheVariants.{TooManyLimits, BadLimitId}
use Rattle.format.specs.declared.Refusal.TheVariants.{BadAddress, PastTheEnd, OtherKind, BonesPointer, ChainTooLong}
use Rattle.format.specs.declared.Refusal.TheVariants.{Chains, Parents, Children, Inverse, Local}

abbrev pub number : Refusal → ℕ
number TableTooShort = 1
number TooManyBones = 2
number TooManyChildren = 3
number BadName = 4
number BufferTooShort = 5
number TooManyLimits = 6
number BadAddress = 10
number PastTheEnd = 11
number OtherKind = 12
number BonesPointer = 13
number ChainTooLong = 14
number Chains = 21
number Parents = 22
number Children = 23
number Inverse = 24
number Local = 25
number BadLimitId = 35

-- what a call answers: its value, read by f, or the refusal's number alone
abbrev pub outcome_by : {A B : Type 0} → (A → B) → Result A Refusal → Res B
outcome_by f (Ok a) = done (f a)
outcome_by f (Err r) = refused (number r)

-- the same of a value as it is
abbrev pub outcome : {A : Type 0} → Result A Refusal → Res A
outcome r = outcome_by (λ a. a) r
