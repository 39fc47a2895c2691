-- A cursor: what each of its reads gives, and what it leaves (docs/FORMAT.md, "Finding bytes": "A cursor read past the end yields zero and
-- marks the overrun"). Definitions only.
use Rattle.std.specs.Prelude.{ℕ, ◌+◌, ◌-◌, ◌^◌, min, false, not, ◌||◌, List, [], take, drop}
use Rattle.std.specs.Borrow.{Bor}
use Rattle.format.specs.Result.{Res, need}
use Rattle.format.specs.Field.{field, stands, or_zero, which_list}
use Rattle.format.specs.declared.Words3.{Words3}
use Rattle.format.specs.declared.Words4.{Words4}
use Rattle.blocks.specs.declared.cursor.Cursor.{Cursor}

-- a sum of 64 bits, or the greatest number of 64 bits where it does not fit
abbrev pub saturating_add : ℕ → ℕ → ℕ
saturating_add m n = min (m + n) (2 ^ 64 - 1)

-- ---- over a slice and a position in it

-- the k bytes from a position on, or none where not all of them stand
abbrev pub standing_bytes : ℕ → List ℕ → ℕ → List ℕ
standing_bytes k s at = which_list (stands k s at) (take k (drop at s)) []

-- the word at an offset, or 0 where not all k bytes of the whole read, from `at` on, stand
abbrev pub word_within : ℕ → List ℕ → ℕ → ℕ → ℕ
word_within k s at i = or_zero (stands k s at) (field 4 s i)

-- three floats as their words, or three zeros
unfoldable pub words3_at : List ℕ → ℕ → Words3
words3_at s at = record { x = word_within 12 s at at; y = word_within 12 s at (at + 4); z = word_within 12 s at (at + 8) }

-- four floats as their words, or four zeros
unfoldable pub words4_at : List ℕ → ℕ → Words4
words4_at s at =
    record { x = word_within 16 s at at; y = word_within 16 s at (at + 4); z = word_within 16 s at (at + 8); w = word_within 16 s at (at + 12) }

-- ---- over a cursor

-- a fresh cursor: the mark is not set
abbrev pub cursor_at : Bor (List ℕ) → ℕ → ℕ → Cursor
cursor_at s pos base = record { «data» = s; pos = pos; base = base; overrun = false }

-- what a read of one kind gives: f of the section and the position
abbrev pub read_by : {X : Type 0} → (List ℕ → ℕ → X) → Cursor → X
read_by f c = f c.«data».now c.pos

-- the cursor behind a read of k bytes: it moves by k, past the end too, and marks where not all k bytes stand
abbrev pub taken : ℕ → Cursor → Cursor
taken k c =
    record {
      «data» = c.«data»;
      pos = saturating_add c.pos k;
      base = c.base;
      overrun = c.overrun || not (stands k c.«data».now c.pos);
    }

-- the cursor n bytes further on, its mark as it was
abbrev pub skipped : ℕ → Cursor → Cursor
skipped n c = record { «data» = c.«data»; pos = saturating_add c.pos n; base = c.base; overrun = c.overrun }

-- 11 where the mark is set
abbrev pub unmarked : Cursor → Res (Unit {0})
unmarked c = need 11 (not c.overrun)

-- the address that a cursor is at
abbrev pub va_of : Cursor → ℕ
va_of c = saturating_add c.base c.pos
