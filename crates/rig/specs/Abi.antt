-- The number of the exports: of their declarations, of the layout of what they are lent, and of what a status means. Definitions only.
use Rattle.std.specs.Prelude.{ℕ}

abbrev pub abi : ℕ
abi = 2
