-- The ways out of `read_bucket` and `read_pointers`. In the loop, the pointers left come from the tables so far to what all of
-- them come to. Assumes nothing.
use Prim.Native.Nat.{ℕ, zero, suc, ◌+◌, ◌*◌, ◌/◌, ◌≤◌, ◌<◌}
use native.Mathlib.Nat.{mul-zero, mul-suc}
use native.Mathlib.Numerals.{add-one}
use native.Mathlib.Omega.{arith}
use mathlib.Core.Path.{◌≡◌, refl, sym, ap, subst, ◌∙◌}
use mathlib.Core.Bool.{true, false}
use mathlib.Core.List.{List, [], ◌∷◌, ◌++◌}
use borrow.Author.Tests.{lt-ltb, le-ltb}
use lib.Dec.{ltb}
use lib.ListN.{length, get_or, set, take, drop, length-append, length-set, length-take, length-drop, drop_of_length-le}
use lib.Seq.{drop-cons, drop-drop}
use Rattle.std.specs.Int.{byte_worth, sum_through}
use Rattle.std.specs.Simd.{first_chunks}
use Rattle.format.specs.declared.Refusal.{Refusal}
use Rattle.format.specs.declared.Refusal.TheVariants.{TableTooShort}
use Rattle.format.specs.Field.{value_of, field, words}
use Rattle.format.specs.Section.{Section}
use Rattle.format.specs.Tables.{Tables, Room, add_bucket}
use Rattle.format.specs.Rows.{laid}
use Rattle.format.specs.Read.{read_head, read_buckets}
use Rattle.format.proofs.Fields.{length-words, words_at_lem}
use Rattle.fields.proofs.Bytes.{load_lem}
use Rattle.tables.proofs.Laid.{sets-laid}
use Rattle.read_chains.specs.Lent.{SameTables, HoldsEntries, HoldsChains, Comes}
use Rattle.read_chains.specs.Entries.{Headed, ReadsHead}
use Rattle.read_chains.specs.Arrays.{ReadsBucket, ReadsPointers}
use Rattle.std.specs.Prelude.{Result, Ok, Err}
use Rattle.read_chains.specs.declared.chains.Head.{Head}
use Rattle.read_chains.specs.declared.Used.{Used}
use Rattle.read_chains.specs.declared.Tables as Lent
use Rattle.read_chains.proofs.Kept.{head_kept}

-- ---- one bucket

-- a bucket stored behind the others
holds-bucket :
    {room : Room} {t u : Tables} {row used n : ℕ} {b e₀ e p₀ p : List ℕ} (h : HoldsChains room t row used b e₀ p₀) →
    u.chained.buckets ≡ t.chained.buckets → HoldsEntries room u n e p → row < length b → (k : ℕ) →
    HoldsChains room (add_bucket k u) (row + 1) n (set b row k) e p
holds-bucket {room} {t} {u} {row} {b = b} h kept o l k =
    let same : length (set b row k) ≡ length b = simp length-set in
    record {
      entries = record { pool = o.pool; linked = o.linked; rows = o.rows; count = o.count; table = o.table };
      rows = h.rows ∙ sym same;
      count = simp (length-append, kept) (omega (arith, h.count));
      table =
          ap (λ (x : List ℕ). set x row k) h.table ∙
          sets-laid (k ∷ []) t.chained.buckets (length b) row (sym h.count) (omega arith) ∙
          ap (λ (x : List ℕ). laid (x ++ (k ∷ [])) (length b)) (sym kept) ∙
          ap (laid (u.chained.buckets ++ (k ∷ []))) (sym same);
    }

module _
    (sec : Section) {va row used : ℕ} {b e₀ e p₀ p : List ℕ} {r : Result Head Refusal} (m : ReadsHead sec va used r e₀ e p₀ p)
  where
    headed : {x : Result Head Refusal} → r ≡ x → {room : Room} {t : Tables} → HoldsChains room t row used b e₀ p₀ →
        Headed room (read_head sec room va t) e p x
    headed {x} i {room} {t} h = subst (λ (y : Result Head Refusal). Headed room (read_head sec room va t) e p y) i (m.reads h.entries)

    pub bucket_lost : {x : Refusal} → r ≡ Err x → ReadsBucket sec va row used (Err x) b b e₀ e p₀ p
    unfolding read_buckets
    bucket_lost i = record { reads = λ h ps. rw (headed i h) refl }

    module _ {hd : Head} (i : r ≡ Ok hd) where
      -- the head's chain leaves the buckets as they were
      kept : {room : Room} {t : Tables} (h : HoldsChains room t row used b e₀ p₀) →
          (headed i h).t.chained.buckets ≡ t.chained.buckets
      kept {room} {t} h =
          ap (λ (x : Tables). x.chained.buckets) (head_kept sec room va t (headed i h).t hd.link (headed i h).is)

      pub bucket-short : length b ≤ row → ReadsBucket sec va row used (Err TableTooShort) b b e₀ e p₀ p
      unfolding read_buckets
      bucket-short l =
          record {
            reads =
                λ {room} {t} h ps.
                let full : ltb (length (headed i h).t.chained.buckets) room.buckets ≡ false =
                le-ltb (length (headed i h).t.chained.buckets) room.buckets
                (omega (arith, h.rows, h.count, ap length (kept h))) in
                rw ((headed i h).is, full) refl;
          }

      pub bucket-done : row < length b → ReadsBucket sec va row used (Ok (record { buckets = row + 1; entries = hd.used })) b (set b row hd.link) e₀ e p₀ p
      unfolding read_buckets
      bucket-done l =
          record {
            reads =
                λ {room} {t} h ps.
                let free : ltb (length (headed i h).t.chained.buckets) room.buckets ≡ true =
                lt-ltb (length (headed i h).t.chained.buckets) room.buckets
                (omega (arith, h.rows, h.count, ap length (kept h))) in
                record {
                  t = add_bucket hd.link (headed i h).t;
                  is = rw ((headed i h).is, free) refl;
                  holds = holds-bucket h (kept h) (headed i h).holds l hd.link;
                };
          }

-- ---- the tables lent

pub same_none : (v : Lent.Tables) → SameTables v v
same_none v =
    record {
      buckets = record { name = refl; size = refl };
      entries = record { name = refl; size = refl };
      pool = record { name = refl; size = refl };
    }

pub same-more : {v w x : Lent.Tables} → SameTables v w → SameTables w x → SameTables v x
same-more s t =
    record {
      buckets = record { name = t.buckets.name ∙ s.buckets.name; size = t.buckets.size ∙ s.buckets.size };
      entries = record { name = t.entries.name ∙ s.entries.name; size = t.entries.size ∙ s.entries.size };
      pool = record { name = t.pool.name ∙ s.pool.name; size = t.pool.size ∙ s.pool.size };
    }

-- ---- the loop over the pointers

-- the bytes of each
chunk-at : (k m : ℕ) (s : List ℕ) (i : ℕ) → i < m → get_or (first_chunks k m s) i [] ≡ take k (drop (k * i) s)
chunk-at k zero s i l = absurd (omega arith)
chunk-at k (suc m) s zero l = simp mul-zero
chunk-at k (suc m) s (suc i) l =
    let j : k + k * i ≡ k * suc i = simp mul-suc (omega arith) in
    chunk-at k m (drop k s) i (omega arith) ∙ ap (take k) (drop-drop (k * i) k s ∙ ap (λ (x : ℕ). drop x s) j)

pub pointer_read :
    (bytes : List ℕ) {cs : List (List ℕ)} {i r : ℕ} → cs ≡ first_chunks 8 (length bytes / 8) bytes → i < length bytes / 8 →
    r ≡ sum_through (λ j. byte_worth j (get_or (get_or cs i []) j 0)) 7 → r ≡ field 8 bytes (8 * i)
pointer_read bytes {cs} {i} e l f =
    let c : get_or cs i [] ≡ take 8 (drop (8 * i) bytes) =
    ap (λ (x : List (List ℕ)). get_or x i []) e ∙ chunk-at 8 (length bytes / 8) bytes i l
    in
    let n : length (take 8 (drop (8 * i) bytes)) ≡ 8 = simp (length-take, length-drop) (omega arith) in
    load_lem 7 (get_or cs i []) (ap length c ∙ n) f ∙ ap value_of c

abbrev pub pointers_of : List ℕ → List ℕ
pointers_of bytes = words 8 (length bytes / 8) bytes

pub record Bucketing
    (sec : Section) (bytes : List ℕ) (filled used i row taken : ℕ) (b₀ b e₀ e p₀ p : List ℕ) : Type 0
  where
    pub within : i ≤ length bytes / 8
    pub same : length b ≡ length b₀
    pub same_entries : length e ≡ length e₀
    pub same_pool : length p ≡ length p₀
    pub rest :
        {room : Room} {t : Tables} → HoldsChains room t filled used b₀ e₀ p₀ →
        Comes (λ u. HoldsChains room u row taken b e p) (read_buckets sec room (pointers_of bytes) t)
        (read_buckets sec room (drop i (pointers_of bytes)))

pub bucketing_none :
    (sec : Section) (bytes : List ℕ) (filled used : ℕ) (b e p : List ℕ) →
    Bucketing sec bytes filled used 0 filled used b b e e p p
bucketing_none sec bytes filled used b e p =
    record {
      within = omega arith;
      same = refl;
      same_entries = refl;
      same_pool = refl;
      rest = λ {room} {t} h. record { t = t; is = refl; holds = h };
    }

module _
    {sec : Section} {bytes : List ℕ} {filled used i row taken : ℕ} {b₀ b e₀ e p₀ p : List ℕ}
    (g : Bucketing sec bytes filled used i row taken b₀ b e₀ e p₀ p)
  where
    pub bucketing_all : length bytes / 8 ≤ i → ReadsPointers sec bytes filled used (Ok (record { buckets = row; entries = taken })) b₀ b e₀ e p₀ p
    unfolding read_buckets
    bucketing_all l =
        record {
          reads =
              λ {room} {t} h.
              let c = g.rest h in
              let short : length (pointers_of bytes) ≤ i = omega (arith, length-words 8 (length bytes / 8) bytes) in
              let z : drop i (pointers_of bytes) ≡ [] = drop_of_length-le (pointers_of bytes) short in
              record {
                t = c.t;
                is = c.is ∙ ap (λ (x : List ℕ). read_buckets sec room x c.t) z;
                holds = c.holds;
              };
        }

    module _
        (l : i < length bytes / 8) {va : ℕ} (f : va ≡ field 8 bytes (8 * i)) {r : Result Used Refusal} {b' e' p' : List ℕ}
        (m : ReadsBucket sec va row taken r b b' e e' p p')
      where
        next : drop i (pointers_of bytes) ≡ va ∷ drop (suc i) (pointers_of bytes)
        next =
            let n = length bytes / 8 in
            let at : get_or (pointers_of bytes) i 0 ≡ va =
            words_at_lem 8 n bytes i l ∙ sym f in
            drop-cons (pointers_of bytes) i 0 (omega (arith, length-words 8 n bytes)) ∙
            ap (λ (x : ℕ). x ∷ drop (suc i) (pointers_of bytes)) at

        turns : {room : Room} {t : Tables} (h : HoldsChains room t filled used b₀ e₀ p₀) →
            read_buckets sec room (pointers_of bytes) t
            ≡ read_buckets sec room (va ∷ drop (suc i) (pointers_of bytes)) (g.rest h).t
        turns {room} {t} h = (g.rest h).is ∙ ap (λ (x : List ℕ). read_buckets sec room x (g.rest h).t) next

        bucketed : {x : Result Used Refusal} → r ≡ x → ReadsBucket sec va row taken x b b' e e' p p'
        bucketed j = subst (λ (x : Result Used Refusal). ReadsBucket sec va row taken x b b' e e' p p') j m

        pub bucketing_lost :
            {x : Refusal} → r ≡ Err x → ReadsPointers sec bytes filled used (Err x) b₀ b' e₀ e' p₀ p'
        bucketing_lost j =
            record {
              reads = λ {room} {t} h. turns h ∙ (bucketed j).reads (g.rest h).holds (drop (suc i) (pointers_of bytes));
            }

        pub bucketing_more :
            {v : Used} → r ≡ Ok v → length b' ≡ length b → length e' ≡ length e → length p' ≡ length p →
            Bucketing sec bytes filled used (i + 1) v.buckets v.entries b₀ b' e₀ e' p₀ p'
        bucketing_more j k k' k'' =
            record {
              within = omega arith;
              same = k ∙ g.same;
              same_entries = k' ∙ g.same_entries;
              same_pool = k'' ∙ g.same_pool;
              rest =
                  λ {room} {t} h.
                  let c = (bucketed j).reads (g.rest h).holds (drop (suc i) (pointers_of bytes)) in
                  record {
                    t = c.t;
                    is =
                        turns h ∙ c.is ∙
                        ap (λ (x : ℕ). read_buckets sec room (drop x (pointers_of bytes)) c.t) (sym (add-one i));
                    holds = c.holds;
                  };
            }
