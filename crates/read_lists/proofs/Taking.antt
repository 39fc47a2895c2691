-- Laws of words stored as new rows. In order: words that fit, and words that do not; a run stored in the rows of a table, over the numbers
-- of its words; a list copied; a list read anew. The runs are those of `fields`. Assumes nothing.
use mathlib.Core.Path.{◌≡◌, refl, sym, ap, ◌∙◌}
use mathlib.Core.Bool.{Bool, true, false, ◌&&◌}
use Rattle.std.specs.Prelude.{Result, Ok, Err}
use mathlib.Core.List.{List, [], ◌∷◌, ◌++◌, map}
use Prim.Native.Nat.{ℕ, suc, ◌+◌, ◌*◌, ◌/◌, ◌≤◌, ◌<◌}
use native.Mathlib.Nat.{le_refl, mul-div-le}
use native.Mathlib.Omega.{arith}
use borrow.Author.Tests.{le-leb, lt-leb, leb-true, leb-false}
use lib.Dec.{leb}
use lib.ListN.{length, take, drop, set, length-set, length-drop, take-append-drop}
use lib.Seq.{sets, length-take-le}
use Rattle.std.proofs.lemmas.List.{map-set, set-append_left}
use Rattle.std.proofs.lemmas.Nat.{mul-le}
use Rattle.std.proofs.Common.{Fits, w64}
use Rattle.format.specs.Result.{done}
use Rattle.format.specs.Field.{stands, which_list, words}
use Rattle.format.specs.declared.Refusal.{Refusal}
use Rattle.format.specs.declared.Refusal.TheVariants.{TableTooShort}
use Rattle.format.specs.Section.{Section, array}
use Rattle.fields.specs.Runs.{loads, loaded, copies, copied}
use Rattle.fields.proofs.RunLaws.{length_part, length-each, part-each}
use Rattle.fields.proofs.WordLists.{length-words}
use Rattle.read_lists.specs.Storing.{Takes, Copies, ReadsNewList}
use Rattle.read_lists.specs.declared.List as ours

-- the m words behind `used` others
abbrev pub behind : ℕ → ℕ → ours.List
behind used m = record { stored = record { first = used; count = m }; used = used + m }

-- all of the m words w, which fit
pub takes-stored :
    (w : List ℕ) {m room used : ℕ} {t₀ t : List ℕ} → length w ≡ m → used + m ≤ room → t ≡ sets t₀ used w →
    Takes w room used (Ok (behind used m)) t₀ t
takes-stored w {m} {room} {used} n h e =
    let yes : leb (used + length w) room ≡ true = le-leb (used + length w) room (omega arith) in
    record { answer = rw yes (simp n); table = rw yes e }

pub takes-short :
    (w : List ℕ) {m room used : ℕ} {t₀ t : List ℕ} → length w ≡ m → room < used + m → t ≡ t₀ →
    Takes w room used (Err TableTooShort) t₀ t
takes-short w {m} {room} {used} n h e =
    let not : leb (used + length w) room ≡ false = lt-leb (used + length w) room (omega arith) in
    record { answer = rw not refl; table = rw not e }

-- ---- what the test of a run tells

on : {A : Type 0} {x z : List A} (b : Bool) (y : List A) → true ≡ b → z ≡ which_list b x y → z ≡ x
unfolding which_list
on b y e h = rw (← e) at h

off : {A : Type 0} {y z : List A} (b : Bool) (x : List A) → false ≡ b → z ≡ which_list b x y → z ≡ y
unfolding which_list
off b x e h = rw (← e) at h

both : (p q : Bool) → true ≡ (p && q) → (p ≡ true) × (q ≡ true)
both true q e = (refl, sym e)
both false q e = (sym e, absurd (cc e))

second : (p q : Bool) → false ≡ (p && q) → p ≡ true → q ≡ false
second p q e d = rw d at (sym e)

-- ---- a run stored in the rows of a table, which are its first words

sets-front : {A : Type 0} (w x y : List A) (i : ℕ) → i + length w ≤ length x → sets x i w ++ y ≡ sets (x ++ y) i w
sets-front [] x y i h = refl
sets-front (a ∷ w) x y i h =
    sets-front w (set x i a) y (suc i) (simp length-set (omega arith))
    ∙ ap (λ z. sets z (suc i) w) (sym (set-append_left x y i a (omega arith)))

map-sets : {A B : Type 0} (f : A → B) (w t : List A) (i : ℕ) → map f (sets t i w) ≡ sets (map f t) i (map f w)
map-sets f [] t i = refl
map-sets f (a ∷ w) t i = map-sets f w (set t i a) (suc i) ∙ ap (λ z. sets z (suc i) (map f w)) (map-set f t i a)

module _
    {A : Type 0} {number : A → ℕ} {numbers : List A → List ℕ} (each : (l : List A) → map number l ≡ numbers l) (t : List A) (row : ℕ)
    {r : ℕ} (rows : r ≡ row * (length t / row))
  where
    within : r ≤ length t
    within = omega (arith, rows, mul-div-le (length t) row)

    size : length (take r t) ≡ r
    size = length-take-le r t within

    rows-kept : {x : List A} → x ≡ take r t → numbers (x ++ drop r t) ≡ numbers t
    rows-kept e = ap numbers (rw e (take-append-drop r t))

    rows-stored :
        (w : List A) (used : ℕ) {x : List A} → used + length w ≤ r → x ≡ sets (take r t) used w →
        numbers (x ++ drop r t) ≡ sets (numbers t) used (numbers w)
    rows-stored w used {x} h e =
        let whole : x ++ drop r t ≡ sets t used w =
        rw e (sets-front w (take r t) (drop r t) used (rw size h) ∙ ap (λ z. sets z used w) (take-append-drop r t)) in
        ap numbers whole ∙ sym (each (sets t used w)) ∙ map-sets number w t used ∙ rw (each t, each w) refl

    -- ---- a list copied

    module _ (s : List A) (first n used : ℕ) {x : List A} (is : x ≡ copied n s first (take r t) used) where
      abbrev test : Bool
      test = copies n s first (take r t) used

      pub copies-done : true ≡ test →
          Copies (numbers s) first n (row * (length t / row)) used (Ok (behind used n)) (numbers t) (numbers (x ++ drop r t))
      copies-done e =
          let p = both (stands n s first) (stands n (take r t) used) e in
          let h : first + n ≤ length s = leb-true (first + n) (length s) p.0 in
          let f : used + n ≤ r = rw size at (leb-true (used + n) (length (take r t)) p.1) in
          let l : length (take n (drop first s)) ≡ n = length-take-le n (drop first s) (simp length-drop (omega arith)) in
          let w = part-each each s first n in
          record {
            copied =
                λ _.
                takes-stored (take n (drop first (numbers s))) (length_part (numbers s) first n (omega (arith, h, length-each each s))) (rw (← rows) f)
                (rw w (rows-stored (take n (drop first s)) used (rw l f) (on test (take r t) e is)));
            missing = λ m. absurd (omega (arith, h, length-each each s));
          }

      pub copies-past : false ≡ test →
          Copies (numbers s) first n (row * (length t / row)) used (Err TableTooShort) (numbers t) (numbers (x ++ drop r t))
      copies-past e =
          let same = rows-kept (off test _ e is) in
          record {
            copied =
                λ h.
                let f : first + n ≤ length s = omega (arith, h, length-each each s) in
                let no = second (stands n s first) (stands n (take r t) used) e (le-leb (first + n) (length s) f) in
                let past : r < used + n = rw size at (leb-false (used + n) (length (take r t)) no) in
                takes-short (take n (drop first (numbers s))) (length_part (numbers s) first n h) (rw (← rows) past) same;
            missing = λ _. (refl, same);
          }

    -- ---- a list read anew, m' words of k' bytes as the code counts them

    module _
        {values : List ℕ → List A} (same_words : (l : List ℕ) → numbers (values l) ≡ l) (k m : ℕ) {k' m' : ℕ} (ek : k' ≡ k) (em : m' ≡ m)
        (sec : Section) (va : ℕ) {b : List ℕ} (found : done b ≡ array sec va (k' * m')) (all : length b ≡ k' * m') (used : ℕ) {x : List A}
        (is : x ≡ loaded values k m' b 0 (take r t) used)
      where
        abbrev fit : Bool
        fit = loads k m' b 0 (take r t) used

        bytes_stand : stands (k * m') b 0 ≡ true
        bytes_stand = le-leb (0 + k * m') (length b) (rw (all, ek) (omega arith))

        new_by : {y : Result ours.List Refusal} {z : List ℕ} → Takes (words k m b) (row * (length t / row)) used y (numbers t) z →
            ReadsNewList sec va k m (row * (length t / row)) used y (numbers t) z
        new_by h = let here : done b ≡ array sec va (k * m) = rw (ek, em) at found in record { takes = rw (← here) h }

        pub new-done : true ≡ fit →
            ReadsNewList sec va k m (row * (length t / row)) used (Ok (behind used m')) (numbers t) (numbers (x ++ drop r t))
        new-done e =
            let p = both (stands (k * m') b 0) (stands m' (take r t) used) e in
            let f : used + m' ≤ r = rw size at (leb-true (used + m') (length (take r t)) p.1) in
            let l : length (values (words k m b)) ≡ m =
            sym (length-each each (values (words k m b))) ∙ ap length (same_words (words k m b)) ∙ length-words k m b in
            let g : used + m ≤ r = rw em at f in
            new_by
            (takes-stored (words k m b) (length-words k m b ∙ sym em) (rw (← rows) f)
            (rows-stored (values (words k m b)) used (rw l g) (rw em at (on fit (take r t) e is)) ∙ ap (sets (numbers t) used) (same_words (words k m b))))

        pub new_short : false ≡ fit →
            ReadsNewList sec va k m (row * (length t / row)) used (Err TableTooShort) (numbers t) (numbers (x ++ drop r t))
        new_short e =
            let past : r < used + m' =
            rw size at (leb-false (used + m') (length (take r t)) (second (stands (k * m') b 0) (stands m' (take r t) used) e bytes_stand)) in
            new_by (takes-short (words k m b) (length-words k m b ∙ sym em) (rw (← rows) past) (rows-kept (off fit _ e is)))

-- the bytes of a list are few enough to count
pub bytes-fit : {k row n : ℕ} → k ≤ 4 → row ≤ 16 → n < 65536 → Fits w64 (k * (row * n))
bytes-fit {k} {row} {n} a b h =
    let l = mul-le k (row * n) 4 (16 * n) a (mul-le row n 16 n b (le_refl n)) in omega (arith, l)
