-- Chains along the links of the rows: the entries stored one behind the other, and the chains of all buckets with their pointers.
-- That the derived rows link the derived chains is in `Derived`. Assumes nothing.
use mathlib.Core.Path.{◌≡◌, refl, sym, ap, ◌∙◌}
use mathlib.Core.List.{List, [], ◌∷◌, ◌++◌, map}
use Prim.Native.Nat.{ℕ, zero, suc, ◌+◌, ◌-◌, ◌*◌, ◌/◌, ◌≤◌, ◌<◌}
use native.Mathlib.Nat.{add_assoc, add-zero, mul-zero}
use native.Mathlib.Numerals.{add-one}
use native.Mathlib.Omega.{arith}
use lib.ListN.{length, get_or, drop, replicate, length-replicate, length-append, length-map, length-drop, drop_of_length-le}
use lib.Seq.{sets, length-sets, drop-cons, get_or-take, get_or-drop}
use Rattle.std.specs.Simd.{first_chunks}
use Rattle.format.specs.Field.{bytes, word_bytes, lay}
use Rattle.format.specs.Chains.{Entry, entry_of}
use Rattle.format.specs.Layout.{base, fill, pad16, pointer, pointers, chain_bytes, entry_total, entry_bytes}
use Rattle.format.proofs.Fields.{length-bytes, length-word_bytes, length-lay, size}
use Rattle.fields.proofs.Stores.{sets-append}
use Rattle.format.specs.Section.{window}
use Rattle.write.specs.Linked.{entry_items, follow_rows, linked, LinksFall, ChainRoom, chains_of, ChainsRoom, ChainsLaid}
use Rattle.fields.proofs.RunLaws.{Left, left-none, left-more, left-all}
use Rattle.write.proofs.Runs.{sets_swap, padded}
use Rattle.write.proofs.Items.{entry_words_lem, pointer-words}

-- ---- one entry and one pointer, stored as words

pub stored-entry :
    (d : List ℕ) {d' : List ℕ} (at tag position link : ℕ) {p : ℕ} → at + 16 ≤ window → p ≡ pointer (base + (at + 16)) link
    → d' ≡ sets d at (word_bytes 4 (tag ∷ position ∷ p ∷ 0 ∷ [])) → d' ≡ sets d at (lay (entry_items (base + (at + 16)) tag
    position link))
stored-entry d at tag position link h e f = rw (entry_words_lem (at + 16) tag position link h) at (rw e at f)

pub stored-pointer :
    (d : List ℕ) {d' : List ℕ} (at head link : ℕ) {p : ℕ} → head ≤ window → p ≡ pointer (base + head) link
    → d' ≡ sets d at (word_bytes 4 (p ∷ 0 ∷ [])) → d' ≡ sets d at (bytes 8 (pointer (base + head) link))
stored-pointer d at head link h e f = rw (pointer-words head link h) at (rw e at f)

-- ---- the rows of the entries

chunk-word :
    (n : ℕ) (t : List ℕ) (p j : ℕ) → p < n → j < 3 → get_or (get_or (first_chunks 3 n t) p []) j 0 ≡ get_or t (3 * p + j) 0
chunk-word zero t p j h k = absurd (omega arith)
chunk-word (suc n) t zero j h k =
    let e : j ≡ 3 * 0 + j = omega arith in
    get_or-take 3 t j 0 k ∙ ap (λ (i : ℕ). get_or t i 0) e
chunk-word (suc n) t (suc p) j h k =
    let e : 3 + (3 * p + j) ≡ 3 * suc p + j = omega arith in
    chunk-word n (drop 3 t) p j (omega arith) k ∙ get_or-drop 3 t (3 * p + j) 0 ∙ ap (λ (i : ℕ). get_or t i 0) e

-- a word of a row
pub row-word :
    (t : List ℕ) {rows : List (List ℕ)} → rows ≡ first_chunks 3 (length t / 3) t → (p j : ℕ) → 3 * p + 3 ≤ length t → j < 3
    → get_or (get_or rows p []) j 0 ≡ get_or t (3 * p + j) 0
row-word t e p j h k = rw e (chunk-word (length t / 3) t p j (omega arith) k)

-- ---- the chain from a link on

-- more turns than a link says change nothing
follow-same : (rows : List ℕ) → LinksFall rows → (k j l : ℕ) → l ≤ k → l ≤ j → follow_rows rows k l ≡ follow_rows rows j l
unfolding follow_rows
follow-same rows f zero zero zero h g = refl
follow-same rows f zero (suc j) zero h g = refl
follow-same rows f (suc k) zero zero h g = refl
follow-same rows f (suc k) (suc j) zero h g = refl
follow-same rows f zero j (suc p) h g = absurd (omega arith)
follow-same rows f (suc k) zero (suc p) h g = absurd (omega arith)
follow-same rows f (suc k) (suc j) (suc p) h g =
    ap (λ (es : List Entry). entry_of (get_or rows (3 * p) 0) (get_or rows (3 * p + 1) 0) ∷ es)
    (follow-same rows f k j (get_or rows (3 * p + 2) 0) (omega (arith, f p)) (omega (arith, f p)))

pub linked-suc :
    (rows : List ℕ) (p : ℕ) → LinksFall rows
    → linked rows (suc p) ≡ entry_of (get_or rows (3 * p) 0) (get_or rows (3 * p + 1) 0) ∷ linked rows (get_or rows (3 * p + 2) 0)
unfolding follow_rows
linked-suc rows p f =
    let next = get_or rows (3 * p + 2) 0 in
    ap (λ (es : List Entry). entry_of (get_or rows (3 * p) 0) (get_or rows (3 * p + 1) 0) ∷ es)
    (follow-same rows f p next next (f p) (omega arith))

-- a pointer to a chain is 0 where its link is
pub pointer-linked : (rows : List ℕ) (at l : ℕ) → pointer at (length (linked rows l)) ≡ pointer at l
unfolding pointer follow_rows
pointer-linked rows at zero = refl
pointer-linked rows at (suc p) = refl

length-entry : (at tag position link : ℕ) → length (lay (entry_items at tag position link)) ≡ 16
unfolding size
length-entry at tag position link = length-lay (entry_items at tag position link)

-- the entries from link l on are left, to be stored from `to` on
pub record Chaining (rows : List ℕ) (link : ℕ) (d₀ : List ℕ) (at : ℕ) (d : List ℕ) (to l : ℕ) : Type 0 where
  pub left : Left d₀ at (chain_bytes (base + at) (linked rows link)) d to (chain_bytes (base + to) (linked rows l))
  pub counts : to + 16 * length (linked rows l) ≡ at + 16 * length (linked rows link)
  pub stands : 3 * l ≤ length rows

pub chaining_none :
    (rows : List ℕ) (link : ℕ) (d : List ℕ) (at : ℕ) → ChainRoom rows link at (length d) → Chaining rows link d at d at link
chaining_none rows link d at r = record { left = left-none d at _; counts = refl; stands = r.stands }

module _ {rows : List ℕ} {link : ℕ} {d₀ : List ℕ} {at : ℕ} {d : List ℕ} {to l : ℕ} (p : ℕ) (r : ChainRoom rows link at (length
    d₀))
    (h : Chaining rows link d₀ at d to l) (q : l ≡ suc p) where
  -- there is room for one more entry
  pub chaining_room : (to + 16 ≤ length d) × (to + 16 ≤ window)
  chaining_room =
      let n : length (linked rows l) ≡ suc (length (linked rows (get_or rows (3 * p + 2) 0))) =
      rw q (ap length (linked-suc rows p r.falls)) in
      (omega (arith, h.counts, r.room, h.left.same, n), omega (arith, h.counts, r.small, n))

  pub chaining_more :
      {d' : List ℕ} {next : ℕ} → next ≡ get_or rows (3 * p + 2) 0
      → d' ≡ sets d to (lay (entry_items (base + (to + 16)) (get_or rows (3 * p) 0) (get_or rows (3 * p + 1) 0) next))
      → Chaining rows link d₀ at d' (to + 16) next
  unfolding chain_bytes
  chaining_more {d'} {next} en e =
      let es = linked rows next in
      let x = lay (entry_items (base + (to + 16)) (get_or rows (3 * p) 0) (get_or rows (3 * p + 1) 0) next) in
      let f = r.falls p in
      let s : linked rows l ≡ entry_of (get_or rows (3 * p) 0) (get_or rows (3 * p + 1) 0) ∷ es =
      rw (q, en) (linked-suc rows p r.falls) in
      let whole : chain_bytes (base + to) (linked rows l) ≡ x ++ chain_bytes (base + (to + 16)) es =
      rw (s, add_assoc base to 16, pointer-linked rows (base + (to + 16)) next) in
      let n : length (linked rows l) ≡ suc (length es) = ap length s in
      record {
        left = rw (length-entry _ _ _ _) at (left-more x (chain_bytes (base + (to + 16)) es) (rw whole at h.left) e);
        counts = omega (arith, h.counts, n);
        stands = omega (arith, h.stands, f, en);
      }

pub chaining_all :
    {rows : List ℕ} {link : ℕ} {d₀ : List ℕ} {at : ℕ} {d : List ℕ} {to l : ℕ} → Chaining rows link d₀ at d to l → l ≡ 0
    → (to ≡ at + 16 * length (linked rows link)) × (d ≡ sets d₀ at (chain_bytes (base + at) (linked rows link)))
unfolding follow_rows chain_bytes
chaining_all {rows} {link} {d₀} {at} {d} {to} {l} h e =
    (omega (arith, rw e at h.counts), left-all (rw e at h.left))

-- ---- the chains of all buckets, and their pointers

pub length-chain_bytes : (at : ℕ) (es : List Entry) → length (chain_bytes at es) ≡ 16 * length es
unfolding chain_bytes
length-chain_bytes at [] = refl
length-chain_bytes at (e ∷ es) =
    length-append (lay (entry_items (at + 16) e.tag e.position (length es))) (chain_bytes (at + 16) es)
    ∙ (let f = length-entry (at + 16) e.tag e.position (length es) in
    let k = length-chain_bytes (at + 16) es in
    omega arith)

pub length-pointers : (at : ℕ) (cs : List (List Entry)) → length (pointers at cs) ≡ length cs
unfolding pointers
length-pointers at [] = refl
length-pointers at (c ∷ cs) = ap suc (length-pointers (at + 16 * length c) cs)

-- the first of two runs stored, and the first of two others behind them
two_runs :
    (p ps c cs d : List ℕ) (i j : ℕ) → i + length p + length ps ≤ j
    → sets (sets d i (p ++ ps)) j (c ++ cs) ≡ sets (sets (sets (sets d i p) j c) (i + length p) ps) (j + length c) cs
two_runs p ps c cs d i j h =
    sets-append c cs (sets d i (p ++ ps)) j
    ∙ ap (λ (l : List ℕ). sets (sets l j c) (j + length c) cs) (sets-append p ps d i)
    ∙ ap (λ (l : List ℕ). sets l (j + length c) cs) (sets_swap ps c (sets d i p) (i + length p) j h)

-- the chains from bucket b on
abbrev rest : List ℕ → List ℕ → ℕ → List (List Entry)
rest heads rows b = map (linked rows) (drop b heads)

-- The buckets from b on are left: their pointers to be stored from at + 8 b on, their entries from `end` on.
pub record Buckets (heads rows : List ℕ) (at to : ℕ) (d₀ d : List ℕ) (b end : ℕ) : Type 0 where
  pub high : b ≤ length heads
  pub low : to ≤ end
  pub same : length d ≡ length d₀
  pub counts : end + 16 * entry_total (rest heads rows b) ≡ to + 16 * entry_total (chains_of heads rows)
  pub is :
      sets (sets d (at + 8 * b) (word_bytes 8 (pointers (base + end) (rest heads rows b)))) end
      (entry_bytes (base + end) (rest heads rows b))
      ≡ sets (sets d₀ at (word_bytes 8 (pointers (base + to) (chains_of heads rows)))) to
      (entry_bytes (base + to) (chains_of heads rows))

module _ (heads rows : List ℕ) (at to : ℕ) where
  pub buckets-none : (d : List ℕ) → Buckets heads rows at to d d 0 to
  buckets-none d =
      record { high = omega arith; low = omega arith; same = refl; counts = refl; is = simp (mul-zero, add-zero) refl }

  rest-next : (b : ℕ) → b < length heads → rest heads rows b ≡ linked rows (get_or heads b 0) ∷ rest heads rows (b + 1)
  rest-next b l = rw (add-one, drop-cons heads b 0 l)

  length_rest : (b : ℕ) → length (rest heads rows b) ≡ length heads - b
  length_rest b = length-map (drop b heads) (linked rows) ∙ length-drop b heads

  module _ {d₀ d : List ℕ} {b end : ℕ} (r : ChainsRoom heads rows at to (length d₀)) (h : Buckets heads rows at to
      d₀ d b end)
      (l : b < length heads) where
    counts-next : end + 16 * (length (linked rows (get_or heads b 0)) + entry_total (rest heads rows (b + 1)))
        ≡ to + 16 * entry_total (chains_of heads rows)
    unfolding entry_total
    counts-next = rw (rest-next b l) at h.counts

    -- room for the pointer
    pub pointer-room : (at + 8 * b + 8 ≤ length d) × (end ≤ window)
    pointer-room = (omega (arith, r.before, r.room, h.same), omega (arith, counts-next, r.small))

    pub chain-room : (d' : List ℕ) → length d' ≡ length d → ChainRoom rows (get_or heads b 0) end (length d')
    chain-room d' e =
        record {
          falls = r.falls;
          stands = r.stands b;
          room = omega (arith, counts-next, r.room, e, h.same);
          small = omega (arith, counts-next, r.small);
        }

    pub buckets-more :
        {d₁ d₂ : List ℕ} {end' : ℕ} → d₁ ≡ sets d (at + 8 * b) (bytes 8 (pointer (base + end) (get_or heads b 0)))
        → end' ≡ end + 16 * length (linked rows (get_or heads b 0))
        → d₂ ≡ sets d₁ end (chain_bytes (base + end) (linked rows (get_or heads b 0)))
        → Buckets heads rows at to d₀ d₂ (b + 1) end'
    unfolding pointers entry_bytes entry_total word_bytes
    buckets-more {d₁} {d₂} {end'} e₁ en e₂ =
        let c = linked rows (get_or heads b 0) in
        let cs = rest heads rows (b + 1) in
        let p = bytes 8 (pointer (base + end) (length c)) in
        let ps = word_bytes 8 (pointers (base + end') cs) in
        let es = entry_bytes (base + end') cs in
        let a : base + end + 16 * length c ≡ base + end' = omega (arith, en) in
        let lp : length p ≡ 8 = length-bytes 8 (pointer (base + end) (length c)) in
        let lc = length-chain_bytes (base + end) c in
        let lr = length_rest (b + 1) in
        let lps : length ps ≡ 8 * (length heads - (b + 1)) =
        length-word_bytes 8 (pointers (base + end') cs) ∙ ap (λ (k : ℕ). 8 * k) (length-pointers (base + end') cs ∙ lr) in
        let f₁ : d₁ ≡ sets d (at + 8 * b) p = e₁ ∙ rw (pointer-linked rows (base + end) (get_or heads b 0)) in
        let f₂ : d₂ ≡ sets (sets d (at + 8 * b) p) end (chain_bytes (base + end) c) =
        e₂ ∙ ap (λ (x : List ℕ). sets x end (chain_bytes (base + end) c)) f₁ in
        let k : at + 8 * b + 8 ≡ at + 8 * (b + 1) = omega arith in
        let whole = rw (rest-next b l, a) at h.is in
        let turn = two_runs p ps (chain_bytes (base + end) c) es d (at + 8 * b) end (omega (arith, r.before, h.low, lp, lps)) in
        record {
          high = omega arith;
          low = omega (arith, h.low, en);
          same = ap length f₂ ∙ simp length-sets h.same;
          counts = omega (arith, counts-next, en);
          is = ap (λ (x : List ℕ). sets (sets x (at + 8 * (b + 1)) ps) end' es) f₂ ∙ sym (rw (lp, k, lc, ← en) at turn) ∙ whole;
        }

  -- all buckets stored, and the fill behind their pointers
  pub buckets-all :
      {d₀ d d' : List ℕ} {b end z : ℕ} → ChainsRoom heads rows at to (length d₀) → Buckets heads rows at to d₀ d b end
      → length heads ≤ b → z ≡ fill (8 * length heads) → d' ≡ sets d (at + 8 * length heads) (replicate z 0) → ChainsLaid heads rows at to d₀ d'
  unfolding pointers entry_bytes word_bytes
  buckets-all {d₀} {d} {d'} {b} {end} {z} r h l ez e =
      let cs = chains_of heads rows in
      let ps = word_bytes 8 (pointers (base + to) cs) in
      let es = entry_bytes (base + to) cs in
      let count = length heads in
      let zs : List ℕ = replicate (fill (8 * count)) 0 in
      let none : drop b heads ≡ [] = drop_of_length-le heads l in
      let lp : length ps ≡ 8 * count =
      length-word_bytes 8 (pointers (base + to) cs)
      ∙ ap (λ (k : ℕ). 8 * k) (length-pointers (base + to) cs ∙ length-map heads (linked rows)) in
      let lz : length zs ≡ fill (8 * count) = length-replicate (fill (8 * count)) 0 in
      let f : d ≡ sets (sets d₀ at ps) to es = rw none at h.is in
      let g : d' ≡ sets (sets (sets d₀ at ps) to es) (at + 8 * length heads) zs = rw (f, ez) at e in
      let swap = sets_swap zs es (sets d₀ at ps) (at + 8 * length heads) to (omega (arith, lz, r.before)) in
      let join : sets (sets d₀ at ps) (at + 8 * length heads) zs ≡ sets d₀ at (pad16 ps) = padded d₀ at ps lp refl refl in
      record { is = g ∙ sym swap ∙ ap (λ (x : List ℕ). sets x to es) join }
