-- The stores of reading in every room: a pool row, an entry, a bucket, a bone and the words of a list ask for just the rows that they
-- add, and the pool's addresses stay distinct. First distinct numbers and the pool, then one store after the other. Assumes nothing.
use mathlib.Core.Path.{◌≡◌, refl, sym, ap, ◌∙◌, subst}
use mathlib.Core.Logic.{◌↔◌, ◌≢◌}
use Prim.Native.Nat.{ℕ, zero, suc, ◌+◌, ◌*◌}
use native.Mathlib.Omega.{arith}
use mathlib.Core.Bool.{Bool, true, false, cond}
use Rattle.std.specs.Prelude.{Option, None, Some}
use mathlib.Core.List.{List, [], ◌∷◌, ◌++◌, map, map-append}
use lib.ListN.{length, take, drop, length-append, length-map}
use lib.Dec.{T, leb, ltb, eqb, leb→le, le→leb, ltb→lt, lt→ltb, eqb→eq, eqb_refl}
use Rattle.format.specs.Result.{Res, done}
use Rattle.format.specs.Section.{Section, Place}
use Rattle.format.specs.Bone.{Bone, keeping}
use Rattle.format.specs.Deriving.{EntryRow}
use Rattle.format.specs.Tables.{ListTable, inverse_table, local_table, parents_table, children_table, words_per_row, list_room, words_in}
use Rattle.format.specs.Tables.{Kind, Rows, rows, Pooled, pooled, SkeletonRow, Tables, Room, find, replace, put_over, put}
use Rattle.format.specs.Tables.{add_bucket, add_entry, add_bone, add_member, add_skeleton, add_words, with_pool, list_at}
use Rattle.format.specs.Records.{column_words}
use Rattle.format.specs.Read.{Step, alter, take_columns, keep_columns, store_list}
use Rattle.format.proofs.Results.{needed}
use Rattle.promises.specs.Meaning.{Holds}
use Rattle.format.specs.Field.{Each}
use Rattle.promises.proofs.RoomSteps.{Steady, steady_need, steady_done}

-- ---- distinct numbers

-- no two are equal
abbrev pub Distinct : List ℕ → Type 0
Distinct [] = Unit {0}
Distinct (x ∷ xs) = Each (λ y. y ≢ x) xs × Distinct xs

each_append : (P : ℕ → Type 0) (xs : List ℕ) (x : ℕ) → (Each P xs × P x) ↔ Each P (xs ++ (x ∷ []))
each_append P [] x = (λ h. (h.1, tt), λ h. (tt, h.0))
each_append P (y ∷ xs) x =
    (λ h. (h.0.0, (each_append P xs x).0 (h.0.1, h.1)), λ h. let k = (each_append P xs x).1 h.1 in ((h.0, k.0), k.1))

-- one more behind, equal to none of them
distinct_append : (xs : List ℕ) (x : ℕ) → Each (λ y. y ≢ x) xs → Distinct xs ↔ Distinct (xs ++ (x ∷ []))
distinct_append [] x new = (λ d. (tt, tt), λ d. tt)
distinct_append (y ∷ xs) x new = (
  λ d. ((each_append (λ z. z ≢ y) xs x).0 (d.0, λ e. new.0 (sym e)), (distinct_append xs x new.1).0 d.1),
  λ d. (((each_append (λ z. z ≢ y) xs x).1 d.0).0, (distinct_append xs x new.1).1 d.1),
)

-- ---- the pool's addresses

abbrev pub addresses : List Pooled → List ℕ
addresses ps = map (λ (p : Pooled). p.address) ps

-- an address at which nothing is found is none of the pool's
find_none : (va : ℕ) (ps : List Pooled) → find va ps ≡ None → Each (λ y. y ≢ va) (addresses ps)
unfolding find
find_none va [] e = tt
find_none va (p ∷ ps) e = go (find_none va ps) (eqb p.address va) refl e
  where
    go :
        (find va ps ≡ None → Each (λ y. y ≢ va) (addresses ps)) → (b : Bool) → eqb p.address va ≡ b →
        cond b (Some p) (find va ps) ≡ None → Each (λ y. y ≢ va) (addresses (p ∷ ps))
    go ih true k e' = let z : ◌≡◌ {A = ℕ} 0 1 = cc in absurd (omega arith)
    go ih false k e' = (λ s. subst T k (subst (λ a. T (eqb p.address a)) s (eqb_refl p.address)), ih e')

-- a row replaced leaves the addresses as they are
replace-addresses : (q : Pooled) (ps : List Pooled) → addresses (replace q ps) ≡ addresses ps
unfolding replace
replace-addresses q [] = refl
replace-addresses q (p ∷ ps) = go (replace-addresses q ps) (eqb p.address q.address) refl
  where
    go :
        addresses (replace q ps) ≡ addresses ps → (b : Bool) → eqb p.address q.address ≡ b →
        addresses (cond b (q ∷ ps) (p ∷ replace q ps)) ≡ addresses (p ∷ ps)
    go ih true k = ap (λ a. a ∷ addresses ps) (sym (eqb→eq p.address q.address (rw k tt)))
    go ih false k = ap (λ l. p.address ∷ l) ih

length-replace : (q : Pooled) (ps : List Pooled) → length (replace q ps) ≡ length ps
length-replace q ps =
    sym (length-map (replace q ps) (λ p. p.address)) ∙ ap length (replace-addresses q ps) ∙ length-map ps (λ p. p.address)

-- ---- rooms that hold the rows stored so far

-- The room holds the rows, and no two of the pool are at one address. The second asks nothing of the room: it is carried along.
pub record Held (t : Tables) (r : Room) : Type 0 where
  pub holds : Holds r t
  pub distinct : Distinct (addresses t.pool)

-- the same held in tables with the same pool
held-alike : {t u : Tables} {r : Room} → u.pool ≡ t.pool → Holds r t ↔ Holds r u → Held t r ↔ Held u r
held-alike e same = (
  λ h. record { holds = same.0 h.holds; distinct = rw e h.distinct },
  λ h. record { holds = same.1 h.holds; distinct = rw e at h.distinct },
)

-- the same held beside what a test has shown
held_more :
    {t u : Tables} {r : Room} {P : Type 0} → u.pool ≡ t.pool → (Holds r t × P) ↔ Holds r u → (Held t r × P) ↔ Held u r
held_more e same = (
  λ h. record { holds = same.0 (h.0.holds, h.1); distinct = rw e h.0.distinct },
  λ h. let k = same.1 h.holds in (record { holds = k.0; distinct = rw e at h.distinct }, k.1),
)

-- ---- steps that give the tables, and steps that give a value and the tables

abbrev pub SteadyStore : Room → Tables → (Room → Res Tables) → Type 0
SteadyStore room t f = Steady room (Held t) Held f

abbrev pub SteadyStep : {A : Type 0} → Room → Tables → (Room → Step A) → Type 0
SteadyStep room t f = Steady room (Held t) (λ p. Held p.1) f

-- both end with the tables as they stand
pub store-ends : {room : Room} (t : Tables) → SteadyStore room t (λ r. done t)
store-ends t = steady_done t λ r. (λ h. h, λ h. h)

pub step_ends : {A : Type 0} {room : Room} (x : A) (t : Tables) → SteadyStep room t (λ r. done (x, t))
step_ends x t = steady_done (x, t) λ r. (λ h. h, λ h. h)

-- ---- a row of the pool: a new address asks for one row, an address found for none

put_over_steady :
    {room : Room} (q : Pooled) (t : Tables) (o : Option Pooled) → find q.address t.pool ≡ o →
    SteadyStore room t (λ r. put_over r q t o)
unfolding put_over
put_over_steady q t (Some p) e =
    let n = length-replace q t.pool in
    steady_done (with_pool (replace q t.pool) t) λ r. (
      λ h. record { holds = omega arith; distinct = rw replace-addresses h.distinct },
      λ h. record { holds = omega arith; distinct = rw replace-addresses at h.distinct },
    )
put_over_steady q t None e =
    let n = length-append t.pool (q ∷ []) in
    let d = distinct_append (addresses t.pool) q.address (find_none q.address t.pool e) in
    steady_need (λ r. ltb (length t.pool) r.pool) λ fits.
    steady_done (with_pool (t.pool ++ (q ∷ [])) t) λ r. (
      λ h. record { holds = omega (arith, ltb→lt); distinct = rw map-append (d.0 h.0.distinct) },
      λ h. (record { holds = omega arith; distinct = d.1 (rw map-append at h.distinct) }, omega (arith, lt→ltb)),
    )

pub put_steady : {room : Room} (va : ℕ) (k : Kind) (s : Rows) (t : Tables) → SteadyStore room t (λ r. put r va k s t)
put_steady va k s t = put_over_steady (pooled va k s) t (find va t.pool) refl

-- the chains and the bones stay
put_over-leaves :
    (room : Room) (q : Pooled) (t u : Tables) (o : Option Pooled) → put_over room q t o ≡ done u →
    (u.chained ≡ t.chained) × (u.bones ≡ t.bones)
unfolding put_over
put_over-leaves room q t u (Some p) e = let s : u ≡ with_pool (replace q t.pool) t = cc in rw s (refl, refl)
put_over-leaves room q t u None e =
    let k = needed 1 (ltb (length t.pool) room.pool) (done (with_pool (t.pool ++ (q ∷ [])) t)) u e in
    let s : u ≡ with_pool (t.pool ++ (q ∷ [])) t = cc k.1 in
    rw s (refl, refl)

pub put-leaves :
    (room : Room) (va : ℕ) (k : Kind) (s : Rows) (t u : Tables) → put room va k s t ≡ done u →
    (u.chained ≡ t.chained) × (u.bones ≡ t.bones)
put-leaves room va k s t u = put_over-leaves room (pooled va k s) t u (find va t.pool)

-- ---- rows of the other tables: what the test before them passes is just what they ask for

module _ (t : Tables) (n : ℕ) (r : Room) where
  pub held-entry : (e : EntryRow) → length t.chained.entries ≡ n → (Held t r × T (ltb n r.entries)) ↔ Held (add_entry e t) r
  held-entry e same = held_more refl (omega (arith, ltb→lt, lt→ltb, length-append t.chained.entries (e ∷ [])))

  pub held-bucket : (l : ℕ) → length t.chained.buckets ≡ n → (Held t r × T (ltb n r.buckets)) ↔ Held (add_bucket l t) r
  held-bucket l same = held_more refl (omega (arith, ltb→lt, lt→ltb, length-append t.chained.buckets (l ∷ [])))

  pub held-bone : (b : Bone Place) → length t.bones ≡ n → (Held t r × T (ltb n r.bones)) ↔ Held (add_bone b t) r
  held-bone b same = held_more refl (omega (arith, ltb→lt, lt→ltb, length-append t.bones (b ∷ [])))

-- a matrix's sixteen words are one row
held-words :
    (l : ListTable) (w : List ℕ) (t : Tables) (r : Room) →
    (Held t r × T (leb (length (words_in l t.lists) + length w) (words_per_row l * list_room l r))) ↔ Held (add_words l w t) r
held-words inverse_table w t r = held_more refl (omega (arith, leb→le, le→leb, length-append t.lists.inverse w))
held-words local_table w t r = held_more refl (omega (arith, leb→le, le→leb, length-append t.lists.local w))
held-words parents_table w t r = held_more refl (omega (arith, leb→le, le→leb, length-append t.lists.parents w))
held-words children_table w t r = held_more refl (omega (arith, leb→le, le→leb, length-append t.lists.children w))

pub store_steady :
    {room : Room} (sec : Section) (l : ListTable) (w : List ℕ) (t : Tables) → SteadyStep room t (λ r. store_list sec r l w t)
unfolding store_list
store_steady sec l w t =
    steady_need (λ r. leb (length (words_in l t.lists) + length w) (words_per_row l * list_room l r)) λ fits.
    steady_done (rows (length (words_in l t.lists)) (length w), add_words l w t) (held-words l w t)

-- ---- rows that ask for no room here: members, skeletons, and bones changed in place

pub held_member : (m : ℕ) (t : Tables) (r : Room) → Held t r ↔ Held (add_member m t) r
held_member m t r = held-alike refl (omega arith)

pub held-skeleton : (s : SkeletonRow) (t : Tables) (r : Room) → Held t r ↔ Held (add_skeleton s t) r
held-skeleton s t r = held-alike refl (omega arith)

length-alter : {A : Type 0} (n : ℕ) (f : A → A) (xs : List A) → length (alter n f xs) ≡ length xs
unfolding alter
length-alter n f [] = refl
length-alter zero f (x ∷ xs) = refl
length-alter (suc n) f (x ∷ xs) = ap suc (length-alter n f xs)

length-take_columns : (rs m : List ℕ) (bs : List (Bone Place)) → length (take_columns rs m bs) ≡ length bs
unfolding take_columns
length-take_columns [] m bs = refl
length-take_columns (r ∷ rs) [] bs = refl
length-take_columns (r ∷ rs) (w ∷ ws) bs =
    let k = keeping (column_words (w ∷ ws)) in length-take_columns rs (drop 15 ws) (alter r k bs) ∙ length-alter r k bs

pub held_columns : (b l : Option Rows) (t : Tables) (r : Room) → Held t r ↔ Held (keep_columns b l t) r
held_columns None l t r = (λ h. h, λ h. h)
held_columns (Some b) None t r = (λ h. h, λ h. h)
held_columns (Some b) (Some l) t r =
    let n = length-take_columns (take b.count (drop b.first t.members)) (list_at local_table l t) t.bones in
    held-alike refl (omega arith)
