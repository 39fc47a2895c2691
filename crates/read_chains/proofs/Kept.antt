-- What reading buckets and chains leaves as it was: every table but the buckets, the entries and the pool. Assumes nothing.
use Prim.Native.Nat.{ℕ, zero, suc, ◌-◌, ◌*◌, ◌<◌}
use native.Mathlib.Omega.{arith}
use mathlib.Core.Path.{◌≡◌, refl, sym, ap, subst, ◌∙◌}
use Rattle.std.specs.Prelude.{Option, None, Some}
use mathlib.Core.List.{List, [], ◌∷◌, ◌++◌}
use lib.Dec.{ltb}
use lib.ListN.{length}
use Rattle.format.specs.Result.{Res, refused, done}
use Rattle.format.specs.Deriving.{entry_row}
use Rattle.format.specs.Field.{words}
use Rattle.format.specs.Section.{Section, part, array}
use Rattle.format.specs.Records.{entry_tag, entry_position, entry_next}
use Rattle.format.specs.Tables.{Kind, entry, buckets, Rows, rows, Pooled, pooled, Chained, Tables, tables, Room}
use Rattle.format.specs.Tables.{with_pool, add_entry, add_bucket, find, replace, put, put_over, read_as}
use Rattle.format.specs.Read.{link_to, chain_from, read_chain, head_from, read_head, read_buckets, buckets_from, read_bucket_array}
use Rattle.format.proofs.Results.{gone, needed}

-- tables with other buckets and entries, and another pool
abbrev pub with_chains : Chained → List Pooled → Tables → Tables
with_chains c q t = tables c t.bones t.members t.lists t.skeletons q

-- u is t but for the entries and the pool
abbrev OnlyEntries : Tables → Tables → Type 0
OnlyEntries t u = u ≡ with_chains (record { buckets = t.chained.buckets; entries = u.chained.entries }) u.pool t

-- u is t but for the buckets, the entries and the pool
abbrev pub OnlyChains : Tables → Tables → Type 0
OnlyChains t u = u ≡ with_chains u.chained u.pool t

done_inj : {A : Type 0} {a b : A} → ◌≡◌ {A = Res A} (done a) (done b) → a ≡ b
done_inj e = cc

only-pool : (v w : Tables) → w ≡ with_pool w.pool v → OnlyChains v w
only-pool v w j = j ∙ ap (λ (x : Tables). with_chains x.chained w.pool v) (sym j)

impossible : {A B : Type 0} {n : ℕ} {a : A} → refused n ≡ done a → B
impossible e = let z : ◌≡◌ {A = ℕ} 0 1 = cc in absurd (omega arith)

put-pool : (room : Room) (va : ℕ) (k : Kind) (r : Rows) (t u : Tables) → put room va k r t ≡ done u → u ≡ with_pool u.pool t
unfolding put_over
put-pool room va k r t u e = by (find va t.pool) e
  where
    by : (o : Option Pooled) → put_over room (pooled va k r) t o ≡ done u → u ≡ with_pool u.pool t
    by (Some o) d =
        let i : with_pool (replace (pooled va k r) t.pool) t ≡ u = cc in
        sym i ∙ ap (λ (x : Tables). with_pool x.pool t) i
    by None d =
        let i : with_pool (t.pool ++ (pooled va k r ∷ [])) t ≡ u =
        done_inj (needed 1 (ltb (length t.pool) room.pool) (done (with_pool (t.pool ++ (pooled va k r ∷ [])) t)) u d).1 in
        sym i ∙ ap (λ (x : Tables). with_pool x.pool t) i

module _ (sec : Section) (room : Room) where
  entry_kept :
      (next : ℕ → Tables → Res Tables) (b : List ℕ) (n : ℕ) (v u : Tables) →
      ((a : ℕ) (w : Tables) → next a w ≡ done u → OnlyEntries w u) → (l : Option ℕ) → chain_from sec room next b n v l ≡ done u →
      OnlyEntries v u
  entry_kept next b n v u ih (Some k) d =
      let i : add_entry (entry_row (entry_tag b) (entry_position b) k) v ≡ u = done_inj d in
      sym i ∙
      ap (λ (w : Tables). with_chains (record { buckets = v.chained.buckets; entries = w.chained.entries }) w.pool v) i
  entry_kept next b n v u ih None d = ih (entry_next b) (add_entry (entry_row (entry_tag b) (entry_position b) (suc (suc n))) v) d

  chain-kept : (left va : ℕ) (t u : Tables) → read_chain sec room left va t ≡ done u → OnlyEntries t u
  unfolding read_chain
  chain-kept zero va t u e = gone (part sec va 16) _ u e λ b p d. impossible d
  chain-kept (suc left) va t u e =
      gone (part sec va 16) _ u e λ b p e₁.
      gone (put room va entry (rows (length t.chained.entries) 1) t) _ u e₁ λ v q e₂.
      gone (link_to (entry_next b) v) _ u e₂ λ l k e₃.
      subst (λ (x : Tables). OnlyEntries x u) (put-pool room va entry (rows (length t.chained.entries) 1) t v q)
      (entry_kept (λ a w. read_chain sec room left a w) b (length t.chained.entries) v u (λ a w. chain-kept left a w u) l e₃)

  -- a chain that is read takes a row
  pub chain-room : (left va : ℕ) (t u : Tables) → read_chain sec room left va t ≡ done u → 0 < left
  unfolding read_chain
  chain-room zero va t u e = gone (part sec va 16) _ u e λ b p d. impossible d
  chain-room (suc left) va t u e = omega arith

  head_by : (va : ℕ) (t u : Tables) (k : ℕ) (l : Option ℕ) → head_from sec room va t l ≡ done (k, u) → OnlyEntries t u
  unfolding head_from
  head_by va t u k (Some j) e =
      let i : t ≡ u = ap (λ (x : ℕ × Tables). x.1) (done_inj e) in
      subst (λ (x : Tables). OnlyEntries t x) i refl
  head_by va t u k None e =
      gone (read_chain sec room (room.entries - length t.chained.entries) va t) _ (k, u) e λ v c d.
      let i : v ≡ u = ap (λ (x : ℕ × Tables). x.1) (done_inj d) in
      subst (λ (x : Tables). OnlyEntries t x) i (chain-kept (room.entries - length t.chained.entries) va t v c)

  pub head_kept : (va : ℕ) (t u : Tables) (k : ℕ) → read_head sec room va t ≡ done (k, u) → OnlyEntries t u
  unfolding read_head
  head_kept va t u k e = gone (link_to va t) _ (k, u) e λ l p d. head_by va t u k l d

  pub buckets-kept : (ps : List ℕ) (t u : Tables) → read_buckets sec room ps t ≡ done u → OnlyChains t u
  unfolding read_buckets
  buckets-kept [] t u e = let i : t ≡ u = done_inj e in subst (λ (x : Tables). OnlyChains t x) i refl
  buckets-kept (p ∷ ps) t u e =
      gone (read_head sec room p t) _ u e λ x h d.
      let k : ℕ = x.0 in
      let v : Tables = x.1 in
      let n = needed 1 (ltb (length v.chained.buckets) room.buckets) (read_buckets sec room ps (add_bucket k v)) u d in
      subst (λ (y : Tables). OnlyChains y u) (head_kept p t v k h) (buckets-kept ps (add_bucket k v) u n.1)

  from_kept :
      (va n : ℕ) (t u : Tables) (r : Option Rows) (o : Option Rows) → buckets_from sec room va n t o ≡ done (r, u) → OnlyChains t u
  unfolding buckets_from
  from_kept va n t u r (Some s) e =
      let i : t ≡ u = ap (λ (x : Option Rows × Tables). x.1) (done_inj e) in
      subst (λ (x : Tables). OnlyChains t x) i refl
  from_kept va n t u r None e =
      gone (array sec va (8 * n)) _ (r, u) e λ b a e₁.
      gone (read_buckets sec room (words 8 n b) t) _ (r, u) e₁ λ v q e₂.
      gone (put room va buckets (rows (length t.chained.buckets) n) v) _ (r, u) e₂ λ w p e₃.
      let i : w ≡ u = ap (λ (x : Option Rows × Tables). x.1) (done_inj e₃) in
      let j : w ≡ with_pool w.pool v = put-pool room va buckets (rows (length t.chained.buckets) n) v w p in
      let k : v ≡ with_chains v.chained v.pool t = buckets-kept (words 8 n b) t v q in
      subst (λ (x : Tables). OnlyChains t x) i (subst (λ (x : Tables). OnlyChains x w) k (only-pool v w j))

  -- reading the bucket array leaves the other tables as they were
  pub array-kept :
      (va n : ℕ) (t u : Tables) (r : Option Rows) → read_bucket_array sec room va n t ≡ done (r, u) → OnlyChains t u
  unfolding read_bucket_array
  array-kept zero n t u r e =
      let i : t ≡ u = ap (λ (x : Option Rows × Tables). x.1) (done_inj e) in
      subst (λ (x : Tables). OnlyChains t x) i refl
  array-kept (suc a) n t u r e = gone (read_as buckets (suc a) t) _ (r, u) e λ o p d. from_kept (suc a) n t u r o d
