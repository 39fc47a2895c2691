-- The outcome by its steps: the tests of the bones, the derived tables, the child entries and the buffer. Assumes nothing.
use mathlib.Core.Path.{◌≡◌, refl, sym, ◌∙◌}
use Rattle.std.specs.Prelude.{Result, Ok, Err}
use mathlib.Core.Bool.{Bool, true, false}
use mathlib.Core.List.{List}
use Prim.Native.Nat.{ℕ, ◌*◌, ◌≤◌, ◌<◌}
use native.Mathlib.Omega.{arith}
use borrow.Author.Tests.{le-leb, lt-leb, leb-true}
use lib.ListN.{length}
use lib.Seq.{sets}
use lib.Dec.{leb}
use Rattle.format.specs.Result.{Res, refused, done, ◌>>=◌, need}
use Rattle.format.specs.Refusal.{number}
use Rattle.format.specs.declared.Refusal.{Refusal}
use Rattle.format.specs.Section.{Section, Place}
use Rattle.format.specs.Bone.{Bone, Words4}
use Rattle.format.specs.Chains.{bucket_count}
use Rattle.format.specs.Deriving.{DeriveRoom, derives}
use Rattle.format.specs.Rows.{bones_of}
use Rattle.format.specs.Layout.{Bytes, layout}
use Rattle.format.specs.Write.{good_names, named, written}
use Rattle.rows.specs.Row.{bones_got}
use Rattle.rows.proofs.Rows.{length-bones_of, got_bones}
use Rattle.write.specs.Records.{takes_all}
use Rattle.write.specs.Names.{names_result, RowsHere}
use Rattle.write.specs.Filling.{kids_of, DerivedRows, Held}
use Rattle.write.specs.Outcome.{outcome, Writes, derived_in, laid_out}
use Rattle.tables.specs.Working.{Working}

-- ---- a refusal leaves the buffer as it was

pub writes_refused : {w : Res Bytes} {r : Refusal} (out : List ℕ) → w ≡ refused (number r) → Writes w (Err r) out out
writes_refused out e = record { answer = rw e; buffer = rw e }

pub writes_done : {w : Res Bytes} {n : ℕ} (b : Bytes) {out out' : List ℕ} → w ≡ done b → n ≡ length b → out' ≡ sets out 0 b →
    Writes w (Ok n) out out'
writes_done b e f g = record { answer = rw (e, f); buffer = rw e g }

pub writes_same : {w w' : Res Bytes} {r : Result ℕ Refusal} {out out' : List ℕ} → w' ≡ w → Writes w r out out' → Writes w' r out out'
writes_same e h = rw e h

-- ---- the tests of the bones

-- bones that may be written
pub record Sound (lent : Section) (n : ℕ) (t : List ℕ) (s : ℕ) : Type 0 where
  pub here : RowsHere t n
  pub good : good_names lent (bones_of n t) ≡ true
  pub names : s ≡ takes_all (bones_of n t)

names_by : (lent : Section) (bs : List (Bone Place)) (s : ℕ) → names_result lent bs ≡ done s → (good_names lent bs ≡ true) × (s ≡
    takes_all bs)
unfolding names_result
names_by lent bs s e = by (good_names lent bs) refl e
  where
    by : (g : Bool) → good_names lent bs ≡ g → (need 4 g >>= λ u. done (takes_all bs)) ≡ done s → (good_names lent bs ≡ true) × (s
        ≡ takes_all bs)
    by true q f = (q, cc)
    by false q f = let z : ◌≡◌ {A = ℕ} 0 1 = cc in absurd (omega arith)

-- the bones that pass the first two
pub bones_found : (n : ℕ) (t : List ℕ) {bs : List (Bone Place)} → done bs ≡ bones_got n t → RowsHere t n × (bs ≡ bones_of n t)
bones_found n t e = let g = got_bones n t e in (record { rows = leb-true (21 * n) (length t) g.1; few = g.0 }, g.2)

pub sound :
    (lent : Section) (n : ℕ) (t : List ℕ) {bs : List (Bone Place)} {s : ℕ} → done bs ≡ bones_got n t → done s ≡ names_result lent bs
    → Sound lent n t s
sound lent n t {bs} {s} e f =
    let g = bones_found n t e in
    let k = names_by lent bs s (sym f) in
    record { here = g.0; good = rw g.1 at k.0; names = rw g.1 at k.1 }

module _ (lent : Section) (room : DeriveRoom) (size n : ℕ) (t : List ℕ) (free : Words4) where
  -- a test that refuses is the outcome
  outcome_tested :
      (x y : Bool) (c : ℕ) (rest : Res Bytes) → refused c ≡ (need 2 x >>= λ u. need 1 y >>= λ v. done (bones_of n t))
      → (need 2 x >>= λ u. need 1 y >>= λ v. rest) ≡ refused c
  outcome_tested false y c rest e = let q : c ≡ 2 = cc in rw q
  outcome_tested true false c rest e = let q : c ≡ 1 = cc in rw q
  outcome_tested true true c rest e = let z : ◌≡◌ {A = ℕ} 0 1 = cc in absurd (omega arith)

  pub outcome-refused : {c : ℕ} → refused c ≡ bones_got n t → outcome lent room size n t free ≡ refused c
  unfolding outcome bones_got
  outcome-refused {c} e = outcome_tested (leb n 65535) (leb (21 * n) (length t)) c _ e

  outcome_named :
      (g : Bool) (c : ℕ) (rest : Res Bytes) → refused c ≡ (need 4 g >>= λ w. done (takes_all (bones_of n t)))
      → (need 4 g >>= λ z. rest) ≡ refused c
  outcome_named false c rest e = let q : c ≡ 4 = cc in rw q
  outcome_named true c rest e = let z : ◌≡◌ {A = ℕ} 0 1 = cc in absurd (omega arith)

  pub outcome-named :
      {bs : List (Bone Place)} {c : ℕ} → done bs ≡ bones_got n t → refused c ≡ names_result lent bs
      → outcome lent room size n t free ≡ refused c
  unfolding outcome written names_result
  outcome-named {bs} {c} e f =
      let g = bones_found n t e in
      rw (length-bones_of n t, le-leb n 65535 g.0.few, le-leb (21 * n) (length t) g.0.rows)
      (outcome_named (good_names lent (bones_of n t)) c _ (rw g.1 at f))

  -- bones that pass: the tables, the child entries and the buffer are left
  pub outcome-sound :
      {s : ℕ} → Sound lent n t s → outcome lent room size n t free ≡ (need 1 (derives room n) >>= λ u. laid_out lent size
      (bones_of n t) free)
  unfolding outcome written laid_out
  outcome-sound h =
      rw (length-bones_of n t, le-leb n 65535 h.here.few, le-leb (21 * n) (length t) h.here.rows, h.good)

-- ---- the child entries and the buffer

module _ (lent : Section) (size : ℕ) (bs : List (Bone Place)) (free : Words4) where
  pub laid_many : 65535 < length (kids_of bs) → laid_out lent size bs free ≡ refused 3
  unfolding laid_out
  laid_many h = rw (lt-leb (length (kids_of bs)) 65535 h)

  pub laid-short :
      length (kids_of bs) ≤ 65535 → size < length (layout (named lent bs) free) → laid_out lent size bs free ≡ refused 5
  unfolding laid_out
  laid-short h k = rw (le-leb (length (kids_of bs)) 65535 h, lt-leb (length (layout (named lent bs) free)) size k)

  pub laid_done :
      length (kids_of bs) ≤ 65535 → length (layout (named lent bs) free) ≤ size → laid_out lent size bs free ≡ done (layout
      (named lent bs) free)
  unfolding laid_out
  laid_done h k = rw (le-leb (length (kids_of bs)) 65535 h, le-leb (length (layout (named lent bs) free)) size k)

-- ---- the tables

module _ (lent : Section) (room : DeriveRoom) (size n : ℕ) (t : List ℕ) (free : Words4) {s : ℕ} (h : Sound lent n t s) where
  derived_by :
      (d : Bool) (c : ℕ) (rest : Res Bytes) → refused c ≡ (need 1 d >>= λ u. done (length (kids_of (bones_of n t))))
      → (need 1 d >>= λ u. rest) ≡ refused c
  derived_by false c rest e = let q : c ≡ 1 = cc in rw q
  derived_by true c rest e = let z : ◌≡◌ {A = ℕ} 0 1 = cc in absurd (omega arith)

  -- tables that are too short
  pub outcome-short :
      {c : ℕ} → refused c ≡ derived_in room n t → outcome lent room size n t free ≡ refused c
  unfolding derived_in
  outcome-short {c} e = outcome-sound lent room size n t free h ∙ derived_by (derives room n) c _ e

  kids_by :
      (d : Bool) (k : ℕ) (rest : Res Bytes) → done k ≡ (need 1 d >>= λ u. done (length (kids_of (bones_of n t))))
      → ((need 1 d >>= λ u. rest) ≡ rest) × (k ≡ length (kids_of (bones_of n t)))
  kids_by true k rest e = (refl, cc)
  kids_by false k rest e = let z : ◌≡◌ {A = ℕ} 0 1 = cc in absurd (omega arith)

  -- tables that were derived: the child entries and the buffer are left
  pub outcome-derived :
      {k : ℕ} → done k ≡ derived_in room n t
      → (outcome lent room size n t free ≡ laid_out lent size (bones_of n t) free) × (k ≡ length (kids_of (bones_of n t)))
  unfolding derived_in
  outcome-derived {k} e =
      let m = kids_by (derives room n) k (laid_out lent size (bones_of n t) free) e in
      (outcome-sound lent room size n t free h ∙ m.0, m.1)

-- what filling asks for
pub all_held :
    {lent : Section} {n : ℕ} {t : List ℕ} {s c k : ℕ} {bones : List (Bone Place)} {x : Working} → Sound lent n t s
    → DerivedRows (bones_of n t) x → c ≡ bucket_count n → k ≡ length (kids_of (bones_of n t)) → bones ≡ bones_of n t
    → Held (record { buckets = c; children = k; names = s }) lent bones x
all_held {n = n} {t = t} h r ec ek eb =
    let l = length-bones_of n t in
    rw eb
    (record { few = rw l h.here.few; good = h.good; buckets_is = rw l ec; children_is = ek; names_is = h.names; rows = r })
