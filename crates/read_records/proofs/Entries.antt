-- The laws of one entry's fields: a field of some bytes of a half, what a cursor reads, and what a caller learns of the answers. Assumes nothing.
use Prim.Native.Nat.{ℕ, ◌+◌, ◌≤◌}
use native.Mathlib.Omega.{arith}
use mathlib.Core.Path.{◌≡◌, refl, sym, ap, ◌∙◌}
use mathlib.Core.List.{List}
use lib.ListN.{length, take, drop, take-append-drop, length-drop}
use lib.Seq.{drop-drop, length-take-le}
use denote.Ref.{Bor}
use Rattle.format.specs.Result.{Res, refused, done, ◌>>=◌}
use Rattle.format.specs.Field.{value_of, field, or_zero}
use Rattle.format.specs.Section.{Section, part}
use Rattle.format.proofs.Fields.{field-within}
use Rattle.blocks.specs.Cursor.{cursor_at}
use Rattle.read_records.specs.Entry.{entry_in, entry_read, entry_at}
use Rattle.read_records.specs.declared.entry.Entry.{Entry}

-- ---- fields

-- a field of some bytes of a half lies in the half
pub field-part :
    (k n : ℕ) (half : List ℕ) (o at : ℕ) → at + k ≤ n → o + n ≤ length half →
    field k (take n (drop o half)) at ≡ field k half (o + at)
field-part k n half o at h l =
    let long : length (take n (drop o half)) ≡ n = length-take-le n (drop o half) (simp length-drop (omega arith)) in
    sym (field-within k (take n (drop o half)) (drop n (drop o half)) at (omega (arith, long))) ∙
    ap (λ (s : List ℕ). field k s at) (take-append-drop n (drop o half)) ∙
    ap (λ (s : List ℕ). value_of (take k s)) (drop-drop at o half)

-- ---- what a cursor reads

-- of sixteen bytes that stand, the entry that they hold
pub entry_whole : (b : Bor (List ℕ)) (base : ℕ) → length b.now ≡ 16 → entry_read (cursor_at b 0 base) ≡ done (entry_in b.now)
unfolding or_zero
entry_whole b base h = rw h refl

-- ---- what a caller learns of an entry's fields

pub record Held (s : Section) (va : ℕ) (f : Entry) : Type 0 where
  pub bytes : List ℕ
  pub is : part s va 16 ≡ done bytes
  pub fields : entry_in bytes ≡ f

pub entry-held : (s : Section) (va : ℕ) (f : Entry) → done f ≡ entry_at s va → Held s va f
unfolding entry_at
entry-held s va f e = by (part s va 16) refl e
  where
    by : (x : Res (List ℕ)) → part s va 16 ≡ x → done f ≡ (x >>= λ b. done (entry_in b)) → Held s va f
    by (refused n) p d = let z : ◌≡◌ {A = ℕ} 0 1 = cc in absurd (omega arith)
    by (done b) p d = record { bytes = b; is = p; fields = cc }

pub entry_lost : (s : Section) (va n : ℕ) → refused n ≡ entry_at s va → part s va 16 ≡ refused n
unfolding entry_at
entry_lost s va n e = by (part s va 16) e
  where
    by : (x : Res (List ℕ)) → refused n ≡ (x >>= λ b. done (entry_in b)) → x ≡ refused n
    by (refused m) d = let i : n ≡ m = cc in ap refused (sym i)
    by (done b) d = let z : ◌≡◌ {A = ℕ} 0 1 = cc in absurd (omega arith)
