-- Laws of the layers: one, and the loop over all of them. Assumes nothing.
use Prim.Native.Nat.{ℕ, zero, suc, ◌+◌, ◌-◌, ◌*◌, ◌≤◌, ◌<◌}
use native.Mathlib.Omega.{arith}
use native.Mathlib.Nat.{sub-zero}
use mathlib.Core.Path.{◌≡◌, refl, sym, ◌∙◌}
use mathlib.Core.List.{List, [], ◌∷◌, ◌++◌, flat_map, append-nil, append_assoc}
use lib.ListN.{length, take, drop, replicate, length-append}
use Rattle.format.specs.Children.{layers, padded, kids, pair_at}
use Rattle.format.specs.Rows.{laid}
use Rattle.derive_children.specs.Pile.{rest, piled, Stacked, PushedAt, pile_of, pending_of, PileTable}
use Rattle.derive_children.specs.Pile.{TookFour, Layered, entries, Listing}
use Rattle.derive_children.specs.declared.pile.Four.{Four}
use Rattle.tables.proofs.Laid.{sets-laid}
use Rattle.derive_children.proofs.Pushing.{ready-below}
use Rattle.derive_children.proofs.Taking.{length-padded, piled-some}

-- ---- a layer

module _ (indices parents t : List ℕ) (top : ℕ) (out : List ℕ) (at : ℕ) (f : Four) (t0 t1 t2 t3 t4 out' : List ℕ) (r1 r2 r3 r4 :
    ℕ)
    (k : TookFour indices parents t top out at f t0 out')
    (pd : PushedAt t0 (2 * length parents) f.top f.d r1 t1) (pc : PushedAt t1 (2 * length parents) r1 f.c r2 t2)
    (pb : PushedAt t2 (2 * length parents) r2 f.b r3 t3) (pa : PushedAt t3 (2 * length parents) r3 f.a r4 t4)
    (same : length t4 ≡ length t0) where
  k1 : Stacked parents (pile_of parents t1) r1
  k1 = pd.pushed.stacked parents k.pile.stacked k.words.3

  k2 : Stacked parents (pile_of parents t2) r2
  k2 = pc.pushed.stacked parents k1 k.words.2

  k3 : Stacked parents (pile_of parents t3) r3
  k3 = pb.pushed.stacked parents k2 k.words.1

  front :
      (a b c d l : List ℕ) → a ++ (b ++ (c ++ (d ++ l))) ≡ (a ++ (b ++ (c ++ d))) ++ l
  front a b c d l = simp append_assoc

  pub layered : Layered indices parents t top out at r4 t4 out'
  layered =
      record {
        pile =
            record {
              ready = ready-below indices parents t0 t4 k.pile.ready same (λ j l. pa.below j l ∙ pb.below j l ∙ pc.below j l ∙ pd.below j l);
              stacked = pa.pushed.stacked parents k3 k.words.0;
            };
        most = omega (arith, k.most, pd.pushed.most, pc.pushed.most, pb.pushed.most, pa.pushed.most);
        left =
            pa.pushed.is parents
            ∙ rw (pb.pushed.is parents, pc.pushed.is parents, pd.pushed.is parents, k.left)
            (front (rest parents f.a) (rest parents f.b) (rest parents f.c) (rest parents f.d) (drop 4 (pending_of
            parents t top)) ∙ rw k.fronts);
        written = k.written;
      }

-- ---- all layers

padded-cut : (pair : ℕ → List ℕ) (x : ℕ) (q : List ℕ) → padded pair 4 (take 4 (x ∷ q)) ≡ padded pair 4 (x ∷ q)
unfolding padded flat_map
padded-cut pair x [] = refl
padded-cut pair x (y ∷ []) = refl
padded-cut pair x (y ∷ z ∷ []) = refl
padded-cut pair x (y ∷ z ∷ u ∷ []) = refl
padded-cut pair x (y ∷ z ∷ u ∷ v ∷ l) = refl

module _ (indices parents : List ℕ) where
  pub entries_none : (k : ℕ) → entries indices parents k [] ≡ []
  unfolding entries layers flat_map
  entries_none zero = refl
  entries_none (suc k) = refl

  pub entries_zero_lem : (q : List ℕ) → entries indices parents 0 q ≡ []
  unfolding entries layers flat_map
  entries_zero_lem q = refl

  pub entries-layer :
      (k : ℕ) (q : List ℕ) → (q ≡ [] → ⊥)
      → entries indices parents (suc k) q ≡ padded (pair_at indices parents) 4 q
      ++ entries indices parents k (flat_map (kids indices parents) (take 4 q) ++ drop 4 q)
  unfolding entries layers flat_map
  entries-layer k [] ne = absurd (ne refl)
  entries-layer k (x ∷ q) ne = rw (padded-cut (pair_at indices parents) x q)

-- ---- the loop

-- k layers stand: their entries are the rows, and what the pile still gives follows
pub record Running (indices parents t₀ out₀ : List ℕ) (start : ℕ) (t out : List ℕ) (top at k : ℕ) : Type 0 where
  pub rows : List ℕ
  pub size : length rows ≡ at
  pub times : at ≡ 8 * k
  pub turns : k ≤ length parents + 1
  pub most : top ≤ length parents + 4 * k
  pub stack_same : length t ≡ length t₀
  pub out_same : length out ≡ length out₀
  pub pile : PileTable indices parents t top
  pub table : out ≡ laid rows (length out₀)
  pub is : entries indices parents (suc (length parents)) (pending_of parents t₀ start) ≡ rows
      ++ entries indices parents (suc (length parents) - k) (pending_of parents t top)

pub running_starts :
    (indices parents t out : List ℕ) (start : ℕ) → PileTable indices parents t start → start ≤ length parents → out ≡ replicate (length out) 0
    → Running indices parents t out start t out start 0 0
running_starts indices parents t out start p h z =
    record {
      rows = [];
      size = refl;
      times = refl;
      turns = omega arith;
      most = omega arith;
      stack_same = refl;
      out_same = refl;
      pile = p;
      table = z ∙ simp sub-zero;
      is = simp sub-zero;
    }

module _ (indices parents t₀ out₀ : List ℕ) (start : ℕ) (t out : List ℕ) (top at k : ℕ) (r : Running indices parents t₀ out₀ start
    t out top at k) where
  pub running_asks : 8 * (length parents + 1) ≤ length out₀ → k ≤ length parents → (2 * length parents + top + 4 ≤ length t)
      × (at + 8 ≤ length out)
  running_asks b h = (omega (arith, r.most, r.pile.ready.room), omega (arith, r.times, r.out_same))

  pub running_turns :
      8 * (length parents + 1) ≤ length out₀ → 0 < top → k ≤ length parents → (top' : ℕ) (t'' out' : List ℕ) → length t'' ≡ length t
      → length out' ≡ length out
      → Layered indices parents t top out at top' t'' out' → Running indices parents t₀ out₀ start t'' out' top' (at + 8) (k + 1)
  running_turns b p h top' t'' out' es eo l =
      let q = pending_of parents t top in
      let new = padded (pair_at indices parents) 4 (pending_of parents t top) in
      let ne : pending_of parents t top ≡ [] → ⊥ = piled-some indices parents (pile_of parents t) top r.pile.stacked p in
      let n8 : length (padded (pair_at indices parents) 4 (pending_of parents t top)) ≡ 8 = length-padded indices parents (pending_of
      parents t top) ne in
      let e : suc (length parents) - k ≡ suc (suc (length parents) - (k + 1)) = omega arith in
      let step :
      entries indices parents (suc (length parents) - k) (pending_of parents t top)
      ≡ padded (pair_at indices parents) 4 (pending_of parents t top) ++ entries indices parents (suc (length parents) - (k + 1))
      (pending_of parents t'' top') =
      rw (e, entries-layer indices parents (suc (length parents) - (k + 1)) (pending_of parents t top) ne, l.left) in
      record {
        rows = r.rows ++ padded (pair_at indices parents) 4 (pending_of parents t top);
        size = length-append r.rows (padded (pair_at indices parents) 4 (pending_of parents t top)) ∙ rw (r.size, n8);
        times = omega (arith, r.times);
        turns = omega arith;
        most = omega (arith, r.most, l.most);
        stack_same = es ∙ r.stack_same;
        out_same = eo ∙ r.out_same;
        pile = l.pile;
        table =
            l.written ∙ rw r.table
            (sets-laid (padded (pair_at indices parents) 4 (pending_of parents t top)) r.rows (length out₀) at r.size
            (omega (arith, r.times, n8)));
        is = r.is ∙ rw step (sym (append_assoc r.rows _ _));
      }

  running_done :
      8 * (length parents + 1) ≤ length out₀ → entries indices parents (suc (length parents) - k) (pending_of parents t top) ≡ []
      → Listing (entries indices parents (suc (length parents)) (pending_of parents t₀ start)) at out₀ out
  running_done b e =
      let f : entries indices parents (suc (length parents)) (pending_of parents t₀ start) ≡ r.rows = r.is
      ∙ rw e (append-nil r.rows) in
      rw f (record { count = sym r.size; room = omega (arith, r.size, r.times, r.turns); table = r.table })

  pub running_full :
      8 * (length parents + 1) ≤ length out₀ → length parents < k
      → Listing (entries indices parents (suc (length parents)) (pending_of parents t₀ start)) at out₀ out
  running_full b h =
      let e : suc (length parents) - k ≡ 0 = omega arith in
      running_done b (rw e (entries_zero_lem indices parents (pending_of parents t top)))

  pub running_ends :
      8 * (length parents + 1) ≤ length out₀ → top ≤ 0
      → Listing (entries indices parents (suc (length parents)) (pending_of parents t₀ start)) at out₀ out
  unfolding piled
  running_ends b h =
      let e : top ≡ 0 = omega arith in
      running_done b (rw e (entries_none indices parents (suc (length parents) - k)))
