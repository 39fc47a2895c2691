-- What a printed line means. In order: the digits of a number lead back to it; lines that differ; the check's answer in a line; the
-- statement. Assumes nothing.
use Prim.Native.Nat.{ℕ, zero, suc, ◌+◌, ◌-◌, ◌*◌, ◌/◌, ◌%◌, ◌≤◌, ◌<◌}
use native.Mathlib.Omega.{arith}
use mathlib.Core.Path.{◌≡◌, refl, sym, ap, subst, ◌∙◌}
use mathlib.Core.Logic.{◌↔◌, inl, inr}
use mathlib.Core.Bool.{Bool, true, false, ◌&&◌, ◌||◌, cond}
use Rattle.std.specs.Prelude.{Option, None, Some}
use mathlib.Core.List.{List, [], ◌∷◌}
use borrow.Author.Tests.{leb-true, le-leb, eqb-true, ne_eqb}
use lib.ListN.{length, get_or, drop}
use lib.Dec.{T, leb, ltb, eqb}
use Rattle.format.specs.Result.{Res, refused, done, ◌>>=◌, need}
use Rattle.format.specs.Section.{Section}
use Rattle.format.specs.Deriving.{DeriveRoom, derives}
use Rattle.format.specs.Chains.{bucket_count, entry_count}
use Rattle.format.specs.Tables.{Rows, SkeletonRow, Tables, skeleton, no_rows, Room, read_as}
use Rattle.format.specs.Read.{read_new_skeleton, skeleton_from, read_skeleton}
use Rattle.format.specs.Layout.{Bytes, base}
use Rattle.format.specs.Check.{read_of, read_from, verdict, read, check_from, check}
use Rattle.format.specs.Program.{program_room, program_derive_room, digits_onto, report, printed}
use Rattle.format.specs.CallRefusals.{check_refusals, one_of}
use Rattle.format.proofs.Results.{gone}
use Rattle.format.proofs.CallRefusals.{call_refusals}
use Rattle.promises.specs.Meaning.{Sound}
use Rattle.promises.proofs.Check.{accepts_reads, accepts_derived}
use Rattle.promises.proofs.Theorems.{theorems}
use Rattle.tables.proofs.Outcome.{both_true}
use Rattle.theorems.specs.Printing.{input_section, ok_line, refused_line, EveryTagFound, OneLine, Printing}
use Rattle.theorems.proofs.Answers.{accepted-is}

is_true : (b : Bool) → T b → b ≡ true
is_true true h = refl
is_true false h = absurd h

-- ---- digits

-- the number that digits stand for behind those read so far, up to a newline
digits_read : ℕ → Bytes → ℕ
digits_read n [] = n
digits_read n (d ∷ s) = cond (eqb d 10) n (digits_read (10 * n + (d - 48)) s)

-- ten to the k
tens : ℕ → ℕ
tens zero = 1
tens (suc k) = 10 * tens k

one_digit : (m n : ℕ) (s : Bytes) → digits_read m ((48 + n) ∷ s) ≡ digits_read (10 * m + n) s
unfolding digits_read
one_digit m n s =
    let e : 10 * m + (48 + n - 48) ≡ 10 * m + n = omega arith in
    rw (ne_eqb (48 + n) 10 (λ q. omega (arith, q)), e)

onto-read : (k n : ℕ) (s : Bytes) → n < tens k → digits_read 0 (digits_onto k n s) ≡ digits_read n s
unfolding digits_onto tens
onto-read zero n s h = let i : 0 ≡ n = omega arith in ap (λ (j : ℕ). digits_read j s) i
onto-read (suc k) n s h =
    by (ltb n 10) refl (onto-read k (n / 10) ((48 + n % 10) ∷ s) (omega arith))
  where
    by :
        (b : Bool) → ltb n 10 ≡ b →
        digits_read 0 (digits_onto k (n / 10) ((48 + n % 10) ∷ s)) ≡ digits_read (n / 10) ((48 + n % 10) ∷ s) →
        digits_read 0 (cond b ((48 + n) ∷ s) (digits_onto k (n / 10) ((48 + n % 10) ∷ s))) ≡ digits_read n s
    by true q e = let i : 10 * 0 + n ≡ n = omega arith in one_digit 0 n s ∙ ap (λ (j : ℕ). digits_read j s) i
    by false q e =
        let i : 10 * (n / 10) + n % 10 ≡ n = omega arith in
        e ∙ one_digit (n / 10) (n % 10) s ∙ ap (λ (j : ℕ). digits_read j s) i

-- ---- lines

ok-number : (n : ℕ) → n ≤ 99999 → digits_read 0 (drop 3 (ok_line n)) ≡ n
unfolding tens digits_read
ok-number n h = onto-read 5 n (10 ∷ []) (omega arith)

ok_same : (m n : ℕ) → m ≤ 99999 → n ≤ 99999 → ok_line m ≡ ok_line n → m ≡ n
ok_same m n hm hn e = sym (ok-number m hm) ∙ ap (λ (l : Bytes). digits_read 0 (drop 3 l)) e ∙ ok-number n hn

ok-not_refused : (m n : ℕ) → refused_line m ≡ ok_line n → ⊥
ok-not_refused m n e = let q : ◌≡◌ {A = ℕ} 114 111 = ap (λ (l : Bytes). get_or l 0 0) e in omega (arith, q)

ok_not_empty : (n : ℕ) → [] ≡ ok_line n → ⊥
ok_not_empty n e = let q : ◌≡◌ {A = ℕ} 0 111 = ap (λ (l : Bytes). get_or l 0 0) e in omega (arith, q)

-- ---- the check's answer

-- a number of a list of numbers of five digits
smalls : List ℕ → Bool
smalls [] = true
smalls (m ∷ ms) = leb m 99999 && smalls ms

listed : (n : ℕ) (ns : List ℕ) → T (smalls ns) → T (one_of n ns) → n ≤ 99999
unfolding smalls
listed n [] h k = absurd k
listed n (m ∷ ms) h k =
    let b = both_true (leb m 99999) (smalls ms) (is_true _ h) in
    by (eqb n m) refl (leb-true m 99999 b.0) k (listed n ms (holds (smalls ms) b.1))
  where
    holds : (b : Bool) → b ≡ true → T b
    holds true e = tt
    holds false e = let z : ◌≡◌ {A = ℕ} 0 1 = cc in absurd (omega arith)

    by : (b : Bool) → eqb n m ≡ b → m ≤ 99999 → T (b || one_of n ms) → (T (one_of n ms) → n ≤ 99999) → n ≤ 99999
    by true e l k f = omega (arith, eqb-true n m e, l)
    by false e l k f = f k

module _ (s : Bytes) where
  abbrev answer : Res (Option ℕ)
  answer = check (input_section s) program_room program_derive_room base

  -- whether a reading gives a skeleton, as a number
  abbrev standing : Res (Option SkeletonRow × Tables) → ℕ
  standing (refused n) = 2
  standing (done (None, t)) = 0
  standing (done (Some k, t)) = 1

  -- what is read at an address that is not 0 is a skeleton
  root_read : (sec : Section) (room : Room) (a : ℕ) (t u : Tables) → read_skeleton sec room (suc a) t ≡ done (None, u) → ⊥
  unfolding read_skeleton skeleton_from
  root_read sec room a t u e = gone (read_as skeleton (suc a) t) _ (None, u) e λ o e₁ e₂. from o e₂
    where
      from : (o : Option Rows) → skeleton_from sec room (suc a) t o ≡ done (None, u) → ⊥
      from (Some r) q = let z : ◌≡◌ {A = ℕ} 1 0 = ap standing q in omega (arith, z)
      from None q =
          gone (read_new_skeleton sec room (suc a) t) _ (None, u) q λ p e₃ e₄.
          let z : ◌≡◌ {A = ℕ} 1 0 = ap standing e₄ in omega (arith, z)

  never_none : (sec : Section) (room : Room) (droom : DeriveRoom) (a : ℕ) → check sec room droom (suc a) ≡ done None → ⊥
  unfolding check read check_from
  never_none sec room droom a e =
      gone (read sec room (suc a)) (check_from droom) None e λ o e₁ e₂.
      gone (read_skeleton sec room (suc a) no_rows) _ o e₁ λ x e₃ e₄. from x.0 x.1 e₃ o e₄ e₂
    where
      from :
          (k : Option SkeletonRow) (t : Tables) → read_skeleton sec room (suc a) no_rows ≡ done (k, t) → (o : _) →
          done (read_from k t) ≡ done o → check_from droom o ≡ done None → ⊥
      from None t q o p r = root_read sec room a no_rows t q
      from (Some k) t q o p r =
          let i : Some (read_of k t) ≡ o = cc in
          gone (verdict droom (read_of k t)) _ None (ap (check_from droom) i ∙ r) λ m e₁ e₂.
          let z : ◌≡◌ {A = ℕ} 0 1 = cc in omega arith

  -- no more bones are accepted than the program has matrices for
  few : (n : ℕ) → answer ≡ done (Some n) → n ≤ 99999
  unfolding derives
  few n e =
      let w = accepts_reads (input_section s) program_room program_derive_room base n e in
      let a = accepted-is (input_section s) program_room program_derive_room base w.0 w.1 n w.2 e in
      omega (arith, matrices n (subst (λ (k : ℕ). T (derives program_derive_room k)) a.count a.room))
    where
      matrices : (k : ℕ) → T (derives program_derive_room k) → k ≤ 800
      matrices k h =
          let tags = leb (bucket_count k) 8192 && leb (entry_count k) 4096 in
          let both = tags && leb k 800 && leb k 800 in
          let g₆ =
          both_true (both && leb k 800 && leb (8 * (k + 1)) 8192) (leb (4 * (k + 1)) 3204) (is_true (derives program_derive_room k) h) in
          let g₅ = both_true (both && leb k 800) (leb (8 * (k + 1)) 8192) g₆.0 in
          leb-true k 800 (both_true both (leb k 800) g₅.0).1

  -- ---- the answer in its line

  abbrev shown : Bool → Bytes
  shown b = report (need 1 b >>= λ u. answer)

  ok_shown :
      (b : Bool) (w : Res (Option ℕ)) (n : ℕ) → n ≤ 99999 → ((m : ℕ) → w ≡ done (Some m) → m ≤ 99999) →
      report (need 1 b >>= λ u. w) ≡ ok_line n → (b ≡ true) × (w ≡ done (Some n))
  ok_shown false w n h k e = absurd (ok-not_refused 1 n e)
  ok_shown true (done (Some m)) n h k e = (refl, ap (λ (i : ℕ). done (Some i)) (ok_same m n (k m refl) h e))
  ok_shown true (done None) n h k e = absurd (ok_not_empty n e)
  ok_shown true (refused m) n h k e = absurd (ok-not_refused m n e)

  ok-exact :
      (n : ℕ) → n ≤ 99999 → (printed s ≡ ok_line n) ↔ ((length s ≤ 65536) × (answer ≡ done (Some n)))
  unfolding printed
  ok-exact n h = (
    λ e.
        let k = ok_shown (leb (length s) 65536) answer n h few e in
        (leb-true (length s) 65536 k.0, k.1),
    λ p.
        ap (λ (b : Bool). shown b) (le-leb (length s) 65536 p.0) ∙ ap report p.1,
  )

  one_line_lem : OneLine s
  unfolding printed smalls
  one_line_lem = by (leb (length s) 65536) refl answer refl
    where
      by :
          (b : Bool) → leb (length s) 65536 ≡ b → (w : Res (Option ℕ)) → answer ≡ w → OneLine s
      by false q w e = record { number = 1; small = omega arith; either = inr (ap (λ (b : Bool). shown b) q, tt) }
      by true q (done (Some m)) e =
          record { number = m; small = few m e; either = inl (ap (λ (b : Bool). shown b) q ∙ ap report e) }
      by true q (done None) e = absurd (never_none (input_section s) program_room program_derive_room 1342177279 e)
      by true q (refused m) e =
          let k = (call_refusals.check (input_section s) program_room program_derive_room base).only m e in
          record { number = m; small = listed m check_refusals tt k; either = inr (ap (λ (b : Bool). shown b) q ∙ ap report e, k) }

  sound : (n : ℕ) → n ≤ 99999 → printed s ≡ ok_line n → Sound (input_section s) base
  sound n h e =
      let a = ((ok-exact n h).0 e).1 in
      let w = accepts_reads (input_section s) program_room program_derive_room base n a in
      record {
        skeleton = w.0;
        tables = w.1;
        reads = record { room = program_room; gives = w.2 };
        derived = accepts_derived (input_section s) program_room program_derive_room base w.0 w.1 n w.2 a;
      }

  every_tag : (n : ℕ) → n ≤ 99999 → printed s ≡ ok_line n → 2 ≤ n → EveryTagFound s n
  every_tag n h e two =
      let a = ((ok-exact n h).0 e).1 in
      let w = accepts_reads (input_section s) program_room program_derive_room base n a in
      let count = (accepted-is (input_section s) program_room program_derive_room base w.0 w.1 n w.2 a).count in
      record {
        skeleton = w.0;
        tables = w.1;
        reads = record { room = program_room; gives = w.2 };
        count = count;
        finds =
            theorems.found (input_section s) base program_room program_derive_room (record { count = n; says = a }) w.0 w.1
            (record { room = program_room; gives = w.2 }) (omega (arith, two, count));
      }

-- ---- the statement

pub printing : Printing
printing = record { one_line = one_line_lem; ok = ok-exact; sound = sound; found = every_tag }
