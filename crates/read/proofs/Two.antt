-- The ways out of `read_rows` and `read_pair`: two parts of a reading, one after the other. Assumes nothing.
use Rattle.std.specs.Prelude.{Option}
use Rattle.std.specs.Prelude.{Err, Ok, Result}
use Prim.Native.Nat.{ℕ}
use native.Mathlib.Omega.{arith}
use mathlib.Core.Path.{◌≡◌, refl, sym, ap, subst, ◌∙◌}
use Rattle.std.specs.Prelude.{None, Some}
use mathlib.Core.List.{List, [], ◌++◌, map}
use lib.ListN.{length, length-map}
use Rattle.format.specs.Result.{done}
use Rattle.format.specs.declared.Refusal.{Refusal}
use Rattle.format.specs.Section.{Section}
use Rattle.format.specs.Chains.{up_from}
use Rattle.format.specs.Rows.{laid, cleared}
use Rattle.format.specs.Tables.{ListTable, inverse_table, local_table, parents_table, children_table}
use Rattle.format.specs.Tables.{Lists, SkeletonRow, Tables, tables, Room, no_rows, words_in, longer, find}
use Rattle.format.specs.Read.{read_bucket_array, read_bones_at, read_list}
use Rattle.tables.proofs.Laid.{laid_none}
use Rattle.read_chains.proofs.Kept.{array-kept}
use Rattle.read_bones.specs.Lent.{BonesIn, leaving, InOrder}
use Rattle.read_bones.specs.Bones.{Before}
use Rattle.read_bones.proofs.Chains.{unread-none, kept-unread, Beside, chains_beside}
use Rattle.read_lists.specs.Lists.{twin, ListsStand}
use Rattle.read_lists.specs.Reads as lists
use Rattle.read_lists.proofs.Standing.{words_in-longer, lists-stand-none}
use Rattle.read_lists.proofs.Others.{bucket-array_spared, bones_at_spared}
use Rattle.read.specs.Parts.{meant_part, Fits, ChainsLeft, ChainsBy, ReadsChains, NoBlock, BonesBy, ReadsBonesIn}
use Rattle.read.specs.Parts.{listing, ListBy, ReadsListIn, read_rows, rows_only, RowsLent, ReadsRows}
use Rattle.read.specs.Parts.{read_pair, PairLent, ReadsPair}
use Rattle.read_records.specs.declared.header.Header.{Header}

-- ---- from the chains to the bones

-- only lists and skeletons are told apart here
rows_as :
    (t : Tables) {l : Lists} {s : List SkeletonRow} → t.lists ≡ l → t.skeletons ≡ s →
    (k : Lists → List SkeletonRow → Tables) →
    k t.lists t.skeletons ≡ k l s
rows_as t a b k = rw (a, b) refl

module _
    (sec : Section) {room : Room} (va n : ℕ) {x : Option ℕ} {b e p : List ℕ}
    (c : ChainsLeft room (read_bucket_array sec room va n no_rows) x b e p)
  where
    beside : Beside no_rows c.t
    beside = chains_beside sec room va n no_rows (meant_part x, c.t) c.is

    bones-before : (pointer : ℕ) {o : List ℕ} → BonesIn o room.bones [] → Before room c.t pointer 0 o p
    bones-before pointer {o} h =
        record {
          lent = record { rows = rw beside.bones h; held = c.holds.entries.pool };
          count = sym (ap length beside.bones);
          unread = kept-unread beside.pool pointer (unread-none pointer);
        }

    in_order : InOrder c.t
    unfolding up_from
    in_order = rw (beside.members, beside.bones) refl

    no_block : NoBlock c.t.pool
    unfolding find
    no_block =
        record {
          each =
              λ a y f k.
              let g : None ≡ Some y = beside.pool.each a y f (omega arith) in
              let z : ◌≡◌ {A = ℕ} 0 1 = cc in
              omega arith;
        }

    no_lists : c.t.lists ≡ no_rows.lists
    no_lists = (bucket-array_spared sec room va n no_rows c.t (meant_part x) c.is).words

    lists-stand : ListsStand c.t
    lists-stand = (bucket-array_spared sec room va n no_rows c.t (meant_part x) c.is).lists (lists-stand-none no_rows refl)

    no_skeletons : c.t.skeletons ≡ []
    no_skeletons = ap (λ (y : Tables). y.skeletons) (array-kept sec room va n no_rows c.t (meant_part x) c.is)

module _
    {sec : Section} (h : Header) (o₀ : List ℕ) {b₀ e₀ p₀ : List ℕ} {c : Result (Option ℕ) Refusal} {b e p₁ : List ℕ}
    (m : ReadsChains sec h.buckets_at h.bucket_count c b₀ b e₀ e p₀ p₁)
  where
    chains :
        {y : Result (Option ℕ) Refusal} → c ≡ y → (room : Room) → RowsLent room o₀ b₀ e₀ p₀ →
        ChainsBy room (read_bucket_array sec room h.buckets_at h.bucket_count no_rows) b e p₁ y
    chains i room l =
        subst (λ (y : Result (Option ℕ) Refusal). ChainsBy room (read_bucket_array sec room h.buckets_at h.bucket_count no_rows) b e p₁ y) i
        (m.reads room l.holds)

    pub rows_no_chains : {x : Refusal} → c ≡ Err x → ReadsRows sec h (Err x) o₀ o₀ b₀ b e₀ e p₀ p₁
    unfolding read_rows
    rows_no_chains i = record { reads = λ room l. rw (chains i room l) refl }

    module _
        {x : Option ℕ} (i : c ≡ Ok x) {d : Result (Option ℕ) Refusal} {o p : List ℕ}
        (k : ReadsBonesIn sec h.bones_at h.bone_count d o₀ o p₁ p)
      where
        bones :
            {y : Result (Option ℕ) Refusal} → d ≡ y → (room : Room) → (l : RowsLent room o₀ b₀ e₀ p₀) →
            BonesBy room (chains i room l).t (read_bones_at sec room h.bones_at h.bone_count (chains i room l).t) o p y
        bones j room l =
            let v = chains i room l in
            subst
            (λ (y : Result (Option ℕ) Refusal). BonesBy room v.t (read_bones_at sec room h.bones_at h.bone_count v.t) o p y) j
            (k.reads room v.t (bones-before sec h.buckets_at h.bucket_count v h.bones_at l.bones)
            (in_order sec h.buckets_at h.bucket_count v) (no_block sec h.buckets_at h.bucket_count v))

        pub rows-no_bones : {y : Refusal} → d ≡ Err y → ReadsRows sec h (Err y) o₀ o b₀ b e₀ e p₀ p
        unfolding read_rows
        rows-no_bones j = record { reads = λ room l. rw ((chains i room l).is, bones j room l) refl }

        pub rows-done : {y : Option ℕ} → d ≡ Ok y → ReadsRows sec h (Ok (x, y)) o₀ o b₀ b e₀ e p₀ p
        unfolding read_rows
        rows-done {y} j =
            record {
              reads =
                  λ room l.
                  let v = chains i room l in
                  let w = bones j room l in
                  let after = leaving v.t w.bones (up_from 0 (length w.bones)) w.pool in
                  let same : after ≡ rows_only v.t.chained w.bones w.pool =
                  rows_as v.t (no_lists sec h.buckets_at h.bucket_count v)
                  (no_skeletons sec h.buckets_at h.bucket_count v)
                  (λ a s. tables v.t.chained w.bones (up_from 0 (length w.bones)) a s w.pool) in
                  let spared = bones_at_spared sec room h.bones_at h.bone_count v.t after (meant_part y) w.is in
                  record {
                    chained = v.t.chained;
                    bones = w.bones;
                    pool = w.pool;
                    is = rw (v.is, w.is) (ap (λ (u : Tables). done ((meant_part x, meant_part y), u)) same);
                    own-bones = w.lent.rows;
                    own-buckets = v.holds.table;
                    own-entries = v.holds.entries.table;
                    held = w.lent.held;
                    lists = subst ListsStand same (spared.lists (lists-stand sec h.buckets_at h.bucket_count v));
                    fits = w.fits;
                  };
            }

-- ---- from a list to the other of its kind

twin-twin : (l : ListTable) → twin (twin l) ≡ l
twin-twin inverse_table = refl
twin-twin local_table = refl
twin-twin parents_table = refl
twin-twin children_table = refl

-- the other table is as it was
twin-longer : (l : ListTable) (w : List ℕ) (t : Lists) → words_in (twin l) (longer l w t) ≡ words_in (twin l) t
twin-longer inverse_table w t = refl
twin-longer local_table w t = refl
twin-longer parents_table w t = refl
twin-longer children_table w t = refl

-- the words of a table that had none
only-words : (l : ListTable) (w : List ℕ) (t : Lists) → words_in l t ≡ [] → words_in l (longer l w t) ≡ w
only-words l w t e = words_in-longer l w t ∙ ap (λ (a : List ℕ). a ++ w) e

-- tables of one length have as many numbers
pub same-length :
    {A : Type 0} {number : A → ℕ} {numbers : List A → List ℕ} (each : (w : List A) → map number w ≡ numbers w) (a b : List A) →
    length a ≡ length b → length (numbers a) ≡ length (numbers b)
same-length each a b e = rw (← each a, ← each b) (simp length-map e)

-- a cleared table holds no words
holds-no_words : (t : List ℕ) {w : List ℕ} → t ≡ cleared (length t) → w ≡ [] → t ≡ laid w (length t)
holds-no_words t z e = z ∙ sym (laid_none (length t)) ∙ ap (λ (a : List ℕ). laid a (length t)) (sym e)

module _
    {sec : Section} {l : ListTable} {va n : ℕ} {a₀ b₀ p₀ : List ℕ} {c : Result (Option ℕ) Refusal} {a p₁ : List ℕ}
    (m : ReadsListIn sec l va n b₀ c a₀ a p₀ p₁) (va' n' : ℕ)
  where
    first-lent : {room : Room} {u : Tables} → PairLent l room u a₀ b₀ p₀ → lists.LentList l room u 0 a₀ b₀ p₀
    first-lent g =
        record {
          pool = g.pool;
          size = sym (ap length g.no_first);
          own = holds-no_words a₀ g.zero-first g.no_first;
          rows = g.room-first;
          other = holds-no_words b₀ g.zero-second g.no_second;
          lists = g.lists;
        }

    first_read :
        {y : Result (Option ℕ) Refusal} → c ≡ y → (room : Room) (u : Tables) → PairLent l room u a₀ b₀ p₀ →
        ListBy l room u (read_list sec room l va n u) a₀ a p₁ y
    first_read i room u g =
        subst (λ (y : Result (Option ℕ) Refusal). ListBy l room u (read_list sec room l va n u) a₀ a p₁ y) i (m.reads room u (first-lent g))

    pub pair_no_first : {x : Refusal} → c ≡ Err x → ReadsPair sec l va n va' n' (Err x) a₀ a b₀ b₀ p₀ p₁
    unfolding read_pair
    pair_no_first i = record { reads = λ room u g. rw (first_read i room u g) refl }

    module _
        {x : Option ℕ} (i : c ≡ Ok x) (same : length a ≡ length a₀) {d : Result (Option ℕ) Refusal} {b p : List ℕ}
        (k : ReadsListIn sec (twin l) va' n' a d b₀ b p₁ p)
      where
        -- the tables after the first list
        abbrev between : (room : Room) (u : Tables) → PairLent l room u a₀ b₀ p₀ → Tables
        between room u g = let v = first_read i room u g in listing l v.words v.pool u

        second-lent :
            (room : Room) (u : Tables) (g : PairLent l room u a₀ b₀ p₀) → lists.LentList (twin l) room (between room u g) 0 b₀ a p₁
        second-lent room u g =
            let v = first_read i room u g in
            let None : words_in (twin l) (longer l v.words u.lists) ≡ [] = twin-longer l v.words u.lists ∙ g.no_second in
            let own : a ≡ laid (words_in l (longer l v.words u.lists)) (length a) =
            v.own ∙ ap (λ (j : ℕ). laid (words_in l (longer l v.words u.lists)) j) (sym same) in
            record {
              pool = v.held;
              size = sym (ap length None);
              own = holds-no_words b₀ g.zero-second None;
              rows = g.room-second;
              other = rw (twin-twin l) own;
              lists = v.lists;
            }

        second-read :
            {y : Result (Option ℕ) Refusal} → d ≡ y → (room : Room) (u : Tables) (g : PairLent l room u a₀ b₀ p₀) →
            ListBy (twin l) room (between room u g) (read_list sec room (twin l) va' n' (between room u g)) b₀ b p y
        second-read j room u g =
            let v = between room u g in
            subst (λ (y : Result (Option ℕ) Refusal). ListBy (twin l) room v (read_list sec room (twin l) va' n' v) b₀ b p y) j
            (k.reads room v (second-lent room u g))

        pub pair-no_second : {y : Refusal} → d ≡ Err y → ReadsPair sec l va n va' n' (Err y) a₀ a b₀ b p₀ p
        unfolding read_pair
        pair-no_second j = record { reads = λ room u g. rw ((first_read i room u g).is, second-read j room u g) refl }

        pub pair-done : {y : Option ℕ} → d ≡ Ok y → ReadsPair sec l va n va' n' (Ok (x, y)) a₀ a b₀ b p₀ p
        unfolding read_pair
        pair-done {y} j =
            record {
              reads =
                  λ room u g.
                  let v = first_read i room u g in
                  let w = second-read j room u g in
                  let None : words_in (twin l) (longer l v.words u.lists) ≡ [] =
                  twin-longer l v.words u.lists ∙ g.no_second in
                  let words = only-words (twin l) w.words (longer l v.words u.lists) None in
                  record {
                    first = v.words;
                    second = w.words;
                    pool = w.pool;
                    is = rw (v.is, w.is) refl;
                    own_first = v.own ∙ ap (λ (z : List ℕ). laid z (length a₀)) (only-words l v.words u.lists g.no_first);
                    own-second = w.own ∙ ap (λ (z : List ℕ). laid z (length b₀)) words;
                    held = w.held;
                    lists = record { stand = w.lists.stand };
                    fits = subst (λ (z : List ℕ). Fits y (length z)) words w.fits;
                  };
            }
