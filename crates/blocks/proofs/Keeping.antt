-- Storing a row keeps the invariant, over rows that are functions of their number. In order: a row stored; with the links as they were; with a
-- link to it, where the path of its address ends. Assumes nothing.
use mathlib.Core.Path.{◌≡◌, refl, sym, ap, subst, ◌∙◌}
use Rattle.std.specs.Prelude.{None, Some}
use mathlib.Core.List.{List}
use mathlib.Core.Logic.{◌⊎◌, inl, inr, ⊎_elim}
use Prim.Native.Nat.{ℕ, zero, suc, ◌+◌, ◌-◌, ◌<◌, ◌≤◌}
use native.Mathlib.Nat.{eq-or-lt_of_le}
use native.Mathlib.Omega.{arith}
use lib.ListN.{length}
use Rattle.format.specs.Tables.{Pooled, find}
use Rattle.blocks.specs.Tree.{linkable, side_at, below, path_at, EndsBehind}
use Rattle.blocks.specs.Hashed.{used, IsNear, Other, Reaches, near, along, beyond, HashHolds}
use Rattle.blocks.proofs.Cases.{le-or-lt, eq-or-ne}
use Rattle.blocks.proofs.Paths.{below-is, below_suc, side_lt, path-next}
use Rattle.blocks.proofs.Paths.{path-back, path-falls, path-alike, path-kept, path-before, path_gains, path-same}
use Rattle.blocks.proofs.Search.{path-used, untaken}
use Rattle.blocks.proofs.Counting.{used-same, used-more}

module _ (n : ℕ) (key : ℕ → ℕ) (link : ℕ → ℕ → ℕ) (val : ℕ → Pooled) (q : List Pooled) (H : HashHolds n key link val q) where
  abbrev m : ℕ
  m = linkable n

  abbrev path : ℕ → ℕ → ℕ
  path a d = path_at link m a d

  -- ---- a row stored

  module _
      (p : Pooled) (r : ℕ) (key' : ℕ → ℕ) (link' : ℕ → ℕ → ℕ) (val' : ℕ → Pooled) (room : r < n)
      (ends : 0 < key r → key r ≡ suc p.address) (only : (j : ℕ) → j < n → key j ≡ suc p.address → j ≡ r)
      (key-same : key' r ≡ suc p.address) (val_same : val' r ≡ p)
      (key-other : (i : ℕ) → (i ≡ r → ⊥) → key' i ≡ key i) (val-other : (i : ℕ) → (i ≡ r → ⊥) → val' i ≡ val i)
    where
      abbrev path' : ℕ → ℕ → ℕ
      path' a d = path_at link' m a d

      -- no key that stood is changed
      key-kept : (i : ℕ) → 0 < key i → key' i ≡ key i
      key-kept i u =
          ⊎_elim
          (λ e. let k : key i ≡ key r = ap key e in ap key' e ∙ key-same ∙ sym (ends (omega arith)) ∙ sym k)
          (key-other i)
          (eq-or-ne i r)

      pub other-kept : (a i : ℕ) → Other key a i → Other key' a i
      other-kept a i o = let k = key-kept i o.0 in (omega (arith, o.0, k), λ e. o.1 (sym k ∙ e))

      pub used-kept : (i : ℕ) → 0 < key i → 0 < key' i
      used-kept i u = omega (arith, key-kept i u)

      -- a row that is free now was free
      pub free-before : (i : ℕ) → key' i ≡ 0 → key i ≡ 0
      free-before i z = ⊎_elim (λ u. omega (arith, key-kept i u)) (λ u. omega arith) (le-or-lt 1 (key i))

      -- row j has the address a now: it is the one stored, or stood before
      now_or_before : (a j : ℕ) → key' j ≡ suc a → ((j ≡ r) × (p.address ≡ a)) ⊎ ((j ≡ r → ⊥) × (key j ≡ suc a))
      now_or_before a j k =
          ⊎_elim
          (λ e. let s : suc p.address ≡ suc a = sym key-same ∙ sym (ap key' e) ∙ k in inl (e, omega arith))
          (λ e. inr (e, sym (key-other j e) ∙ k))
          (eq-or-ne j r)

      -- the rows used are one more where the row was free
      used_again : 0 < key r → used key' n ≡ used key n
      used_again h =
          used-same key key' n (λ i l. ⊎_elim (λ s. key-kept i (omega (arith, ap key s))) (key-other i) (eq-or-ne i r))

      used-new : key r ≡ 0 → used key' n ≡ suc (used key n)
      used-new e = used-more key key' r n room e (omega (arith, key-same)) key-other

      -- the pool e has the row p, and else what q has; it is longer where the row was free
      pub record Entering (e : List Pooled) : Type 0 where
        pub same : find p.address e ≡ Some p
        pub other : (a : ℕ) → (p.address ≡ a → ⊥) → find a e ≡ find a q
        pub again : 0 < key r → length e ≡ length q
        pub new : key r ≡ 0 → length e ≡ suc (length q)

      -- how the searches go on
      pub record Leading : Type 0 where
        pub root : (i : ℕ) → below m (link 0 0) ≡ suc i → below m (link' 0 0) ≡ suc i
        pub step : (x s i : ℕ) → s < 2 → below x (link x s) ≡ suc i → below x (link' x s) ≡ suc i
        -- where every row that can be linked is used, no path is longer than before
        pub back : ((i : ℕ) → i < m → 0 < key i) → (a d i : ℕ) → path' a d ≡ suc i → path a d ≡ suc i
        pub arrives : Reaches n key' link' p.address r
        pub taken : (i : ℕ) → m ≤ i + link' 0 1 → i < m → 0 < key' i
        pub led : (a d i : ℕ) → path' a d ≡ suc i → m ≤ i + link' 0 1
        pub alike : (a d i b e : ℕ) → path' a d ≡ suc i → key' i ≡ suc b → e < d → side_at b e ≡ side_at a e
        pub bare : (i s : ℕ) → s < 2 → 0 < i → i < m → key' i ≡ 0 → link' i s ≡ 0

      -- a row of a path that stood
      alike-kept : (a d i b e : ℕ) → path a d ≡ suc i → key' i ≡ suc b → e < d → side_at b e ≡ side_at a e
      alike-kept a d i b e h k l = H.alike a d i b e h (sym (key-kept i (path-used n key link val q H a d i h)) ∙ k) l

      module _ (e : List Pooled) (E : Entering e) (L : Leading) where
        reaches_kept : (a j : ℕ) → Reaches n key link a j → Reaches n key' link' a j
        reaches_kept a j (near x f) = near x (λ i l h. other-kept a i (f i l h))
        reaches_kept a j (along d f h g) =
            along d (λ i x l. other-kept a i (f i x l)) (path-kept link link' m L.root L.step a d j h)
            (λ c i l s. other-kept a i (g c i l (path-before link link' m L.root L.step a c d j i (omega arith) h s)))
        reaches_kept a j (beyond f g u h y) =
            beyond (λ i x l. other-kept a i (f i x l)) (λ c i s. other-kept a i (g c i (L.back u a c i s)))
            (λ i l. used-kept i (u i l)) (λ i l o. other-kept a i (h i l o)) y

        stored-reach : (a j : ℕ) → j < n → key' j ≡ suc a → Reaches n key' link' a j
        stored-reach a j l k =
            ⊎_elim
            (λ h.
            subst (λ (x : ℕ). Reaches n key' link' x j) h.1
            (subst (λ (x : ℕ). Reaches n key' link' p.address x) (sym h.0) L.arrives))
            (λ h. reaches_kept a j (H.reach a j l h.1))
            (now_or_before a j k)

        stored_here : (a j : ℕ) → j < n → key' j ≡ suc a → find a e ≡ Some (val' j)
        stored_here a j l k =
            ⊎_elim
            (λ h. subst (λ (x : ℕ). find x e ≡ Some (val' j)) h.1 (E.same ∙ ap Some (sym val_same ∙ ap val' (sym h.0))))
            (λ h.
            E.other a (λ s. h.0 (only j l (h.1 ∙ ap suc (sym s)))) ∙ H.here a j l h.1
            ∙ ap Some (sym (val-other j h.0)))
            (now_or_before a j k)

        stored-nowhere : (a : ℕ) → ((j : ℕ) → j < n → key' j ≡ suc a → ⊥) → find a e ≡ None
        stored-nowhere a f =
            E.other a (λ s. f r room (key-same ∙ ap suc s)) ∙ H.nowhere a (λ j l k. f j l (key-kept j (omega arith) ∙ k))

        stored-size : length e ≡ used key' n
        stored-size =
            ⊎_elim
            (λ u. E.again u ∙ H.size ∙ sym (used_again u))
            (λ z. let f : key r ≡ 0 = omega arith in E.new f ∙ ap suc H.size ∙ sym (used-new f))
            (le-or-lt 1 (key r))

        pub stored-holds : HashHolds n key' link' val' e
        stored-holds =
            record {
              reach = stored-reach;
              here = stored_here;
              nowhere = stored-nowhere;
              size = stored-size;
              taken = L.taken;
              led = L.led;
              alike = L.alike;
              bare = L.bare;
            }

      -- ---- a row stored with the links as they were

      module _ (same : (i s : ℕ) → link' i s ≡ link i s) where
        same-path : (a d : ℕ) → path' a d ≡ path a d
        same-path a d = path-same link link' same m a d

        reaches_same : (a j : ℕ) → Reaches n key link a j → Reaches n key' link' a j
        reaches_same a j (near x f) = near x (λ i l h. other-kept a i (f i l h))
        reaches_same a j (along d f h g) =
            along d (λ i x l. other-kept a i (f i x l)) (same-path a d ∙ h)
            (λ c i l s. other-kept a i (g c i l (sym (same-path a c) ∙ s)))
        reaches_same a j (beyond f g u h y) =
            beyond (λ i x l. other-kept a i (f i x l)) (λ c i s. other-kept a i (g c i (sym (same-path a c) ∙ s)))
            (λ i l. used-kept i (u i l)) (λ i l o. other-kept a i (h i l o)) y

        pub leading_same : Reaches n key link p.address r → Leading
        leading_same h =
            record {
              root = λ i e. ap (below m) (same 0 0) ∙ e;
              step = λ x s i l e. ap (below x) (same x s) ∙ e;
              back = λ u a d i e. sym (same-path a d) ∙ e;
              arrives = reaches_same p.address r h;
              taken = λ i l o. used-kept i (H.taken i (omega (arith, same 0 1)) o);
              led = λ a d i e. let g = H.led a d i (sym (same-path a d) ∙ e) in omega (arith, same 0 1);
              alike = λ a d i b e h k l. alike-kept a d i b e (sym (same-path a d) ∙ h) k l;
              bare = λ i s h l o z. same i s ∙ H.bare i s h l o (free-before i z);
            }

      -- ---- a free row stored in the tree, linked where the path of its address ends

      module _
          (linked : r < m) (free : key r ≡ 0) (above : (i : ℕ) → r < i → i + link 0 1 < m → 0 < key i)
          (full : (i : ℕ) → IsNear n p.address i → i < n → Other key p.address i)
          (missed : (e i : ℕ) → path p.address e ≡ suc i → key i ≡ suc p.address → ⊥)
          (at side : ℕ) (new : link' at side ≡ suc r) (count : link' 0 1 ≡ m - r)
          (other : (i s : ℕ) → s < 2 → (i ≡ at → s ≡ side → ⊥) → (i ≡ 0 → s ≡ 1 → ⊥) → link' i s ≡ link i s)
        where
          -- where the link is: the tree's own where it had none, or that of a used row above, which had none on this side
          pub record Vacant : Type 0 where
            pub first : at ≡ 0 → (side ≡ 0) × (below m (link 0 0) ≡ 0)
            pub later : 0 < at → (r < at) × (0 < key at) × (below at (link at side) ≡ 0)

          vacant : (d : ℕ) → EndsBehind link m p.address d at side → Vacant
          unfolding path_at
          vacant zero t = record { first = λ e. (t.1, t.2); later = λ l. absurd (omega (arith, t.0)) }
          vacant (suc d) t =
              let u : m ≤ at + link 0 1 = H.led p.address d at t.0 in
              let v : r < at = omega (arith, untaken n key link val q H r linked free) in
              record {
                first = λ e. absurd (omega arith);
                later =
                    λ l. (
                      v,
                      path-used n key link val q H p.address d at t.0,
                      ap (λ (s : ℕ). below at (link at s)) t.1 ∙ sym (path-next link m p.address d at t.0) ∙ t.2,
                    );
              }

          new-at : (i s : ℕ) → i ≡ at → s ≡ side → link' i s ≡ suc r
          new-at i s h o = ap (λ (x : ℕ). link' x s) h ∙ ap (link' at) o ∙ new

          module _ (W : Vacant) where
            root_kept : (i : ℕ) → below m (link 0 0) ≡ suc i → below m (link' 0 0) ≡ suc i
            root_kept i e =
                ⊎_elim
                (λ z. absurd (omega (arith, (W.first z).1)))
                (λ z. ap (below m) (other 0 0 (omega arith) (λ h o. z (sym h)) (λ h o. omega arith)) ∙ e)
                (eq-or-ne at 0)

            step_kept : (x s i : ℕ) → s < 2 → below x (link x s) ≡ suc i → below x (link' x s) ≡ suc i
            step_kept x s i l e =
                let u : i < x = (below_suc x (link x s) i e).1 in
                let apart : x ≡ at → s ≡ side → ⊥ =
                λ h o. let z : below x (link x s) ≡ 0 = rw (h, o) (W.later (omega arith)).2 in omega arith
                in
                ap (below x) (other x s l apart (λ h o. omega arith)) ∙ e

            root_gains : (i : ℕ) → below m (link' 0 0) ≡ suc i → (below m (link 0 0) ≡ suc i) ⊎ (i ≡ r)
            root_gains i e =
                ⊎_elim
                (λ z.
                let g = new-at 0 0 (sym z) (sym (W.first z).0) in
                inr (omega (arith, (below_suc m (link' 0 0) i e).0)))
                (λ z. inl (sym (ap (below m) (other 0 0 (omega arith) (λ h o. z (sym h)) (λ h o. omega arith))) ∙ e))
                (eq-or-ne at 0)

            step_gains : (x s i : ℕ) → s < 2 → below x (link' x s) ≡ suc i → (below x (link x s) ≡ suc i) ⊎ (i ≡ r)
            step_gains x s i l e =
                let b = below_suc x (link' x s) i e in
                let kept : (x ≡ at → s ≡ side → ⊥) → below x (link x s) ≡ suc i =
                λ h. sym (ap (below x) (other x s l h (λ g o. omega (arith, b.1)))) ∙ e
                in
                ⊎_elim
                (λ h.
                ⊎_elim
                (λ o. let g = new-at x s h o in inr (omega (arith, b.0)))
                (λ o. inl (kept (λ g w. o w)))
                (eq-or-ne s side))
                (λ h. inl (kept (λ g o. h g)))
                (eq-or-ne x at)

            -- a free row is not the one that has the link
            elsewhere : (i : ℕ) → 0 < i → key i ≡ 0 → i ≡ at → ⊥
            elsewhere i l z h = let u : 0 < key at = (W.later (omega arith)).1 in omega (arith, ap key h)

            none_gained : (s i : ℕ) → s < 2 → below r (link' r s) ≡ suc i → ⊥
            none_gained s i l e =
                let b = below_suc r (link' r s) i e in
                let u : 0 < r = omega (arith, b.1) in
                let g : link' r s ≡ link r s = other r s l (λ h o. elsewhere r u free h) (λ h o. omega arith) in
                omega (arith, b.0, H.bare r s l u linked free)

            led_now : (a d i : ℕ) → path' a d ≡ suc i → m ≤ i + link' 0 1
            led_now a d i e =
                ⊎_elim
                (λ h. let g = H.led a d i h in omega (arith, untaken n key link val q H r linked free))
                (λ h. omega arith)
                (path_gains link link' m r root_gains step_gains none_gained a d i e)

            taken_now : (i : ℕ) → m ≤ i + link' 0 1 → i < m → 0 < key' i
            taken_now i l o =
                ⊎_elim
                (λ h. omega (arith, ap key' h, key-same))
                (λ h.
                used-kept i
                (⊎_elim (λ g. H.taken i g o) (λ g. above i (omega arith) g) (le-or-lt m (i + link 0 1))))
                (eq-or-ne i r)

            bare_now : (i s : ℕ) → s < 2 → 0 < i → i < m → key' i ≡ 0 → link' i s ≡ 0
            bare_now i s h l o z =
                let g = free-before i z in
                other i s h (λ e w. elsewhere i l g e) (λ e w. omega arith) ∙ H.bare i s h l o g

            arrives_at : (d : ℕ) → EndsBehind link m p.address d at side → path' p.address d ≡ suc r
            unfolding path_at
            arrives_at zero t =
                ap (below m) (new-at 0 0 (sym t.0) (sym t.1)) ∙ below-is m (suc r) (omega arith)
            arrives_at (suc d) t =
                let u : r < at = (W.later (omega (arith, untaken n key link val q H r linked free, H.led p.address d at t.0))).0 in
                path-next link' m p.address d at (path-kept link link' m root_kept step_kept p.address d at t.0)
                ∙ ap (λ (s : ℕ). below at (link' at s)) (sym t.1) ∙ ap (below at) new ∙ below-is at (suc r) (omega arith)

            arrives_after :
                (d : ℕ) → EndsBehind link m p.address d at side →
                (e i : ℕ) → e < d → path' p.address e ≡ suc i → Other key' p.address i
            arrives_after zero t e i l h = absurd (omega arith)
            arrives_after (suc d) t e i l h =
                let g : path p.address e ≡ suc i =
                path-before link link' m root_kept step_kept p.address e d at i (omega arith) t.0 h
                in
                other-kept p.address i (path-used n key link val q H p.address e i g, missed e i g)

            -- a row has one depth, whatever path leads to it
            one_depth : (a b c d i : ℕ) → path a c ≡ suc i → path b d ≡ suc i → c ≡ d
            one_depth a b c d i h k = by (key i) refl
              where
                by : (x : ℕ) → key i ≡ x → c ≡ d
                by zero z = absurd (omega (arith, path-used n key link val q H a c i h))
                by (suc w) z =
                    let u : path w c ≡ suc i = path-alike link m w a c (λ e l. H.alike a c i w e h z l) ∙ h in
                    let v : path w d ≡ suc i = path-alike link m w b d (λ e l. H.alike b d i w e k z l) ∙ k in
                    ⊎_elim
                    (λ s.
                    ⊎_elim
                    (λ t. t)
                    (λ t. absurd (omega (arith, path-falls link m w c d i i t u v)))
                    (eq-or-lt_of_le {n = c} {m = d} s))
                    (λ s. absurd (omega (arith, path-falls link m w d c i i s v u)))
                    (le-or-lt c d)

            -- by the same row before them, two addresses go the same way
            both_alike : (a b d i : ℕ) → path a d ≡ suc i → path b d ≡ suc i → (e : ℕ) → e < d → side_at a e ≡ side_at b e
            both_alike a b d i h k e l = by (key i) refl
              where
                by : (x : ℕ) → key i ≡ x → side_at a e ≡ side_at b e
                by zero z = absurd (omega (arith, path-used n key link val q H a d i h))
                by (suc w) z = sym (H.alike a d i w e h z l) ∙ H.alike b d i w e k z l

            -- a path that leads to the new row comes from the row that has the link to it
            from_tip : (b e : ℕ) → path' b (suc e) ≡ suc r → (path b e ≡ suc at) × (side_at b e ≡ side)
            from_tip b e h =
                let k = path-back link' m b e r h in
                let y : ℕ = k.0 in
                let l : r < y = (below_suc y (link' y (side_at b e)) r k.2).1 in
                let old : path b e ≡ suc y =
                ⊎_elim (λ p. p) (λ s. absurd (omega arith))
                (path_gains link link' m r root_gains step_gains none_gained b e y k.1)
                in
                let never : below y (link y (side_at b e)) ≡ suc r → ⊥ =
                λ z.
                let g = H.led b (suc e) r (path-next link m b e y old ∙ z) in
                omega (arith, untaken n key link val q H r linked free)
                in
                let kept : (y ≡ at → side_at b e ≡ side → ⊥) → ⊥ =
                λ n. never (sym (ap (below y) (other y (side_at b e) (side_lt b e) n (λ g o. omega arith))) ∙ k.2)
                in
                ⊎_elim
                (λ s.
                ⊎_elim
                (λ o. (old ∙ ap suc s, o))
                (λ o. absurd (kept (λ g w. o w)))
                (eq-or-ne (side_at b e) side))
                (λ s. absurd (kept (λ g o. s g)))
                (eq-or-ne y at)

            alike-new :
                (d : ℕ) → EndsBehind link m p.address d at side →
                (b c : ℕ) → path' b c ≡ suc r → (e : ℕ) → e < c → side_at p.address e ≡ side_at b e
            alike-new d t b zero h e l = absurd (omega arith)
            alike-new zero t b (suc c) h e l =
                let k = path-back link' m b c r h in
                let v : r < k.0 = (below_suc k.0 (link' k.0 (side_at b c)) r k.2).1 in
                let g = from_tip b c h in
                let w : suc k.0 ≡ suc at =
                sym k.1 ∙ path-kept link link' m root_kept step_kept b c at g.0
                in
                absurd (omega (arith, t.0))
            alike-new (suc d) t b (suc c) h e l =
                let g = from_tip b c h in
                let s : d ≡ c = one_depth p.address b d c at t.0 g.0 in
                ⊎_elim
                (λ o.
                ap (side_at p.address) (o ∙ sym s) ∙ sym t.1 ∙ sym g.1 ∙ ap (side_at b) (sym o))
                (λ o. both_alike p.address b c at (sym (ap (path p.address) s) ∙ t.0) g.0 e o)
                (eq-or-lt_of_le {n = e} {m = c} (omega arith))

            alike_now :
                (d : ℕ) → EndsBehind link m p.address d at side →
                (a c i b e : ℕ) → path' a c ≡ suc i → key' i ≡ suc b → e < c → side_at b e ≡ side_at a e
            alike_now d t a c i b e h k l =
                ⊎_elim
                (λ g. alike-kept a c i b e g k l)
                (λ g.
                let is : suc b ≡ suc p.address = sym k ∙ ap key' g ∙ key-same in
                let w : b ≡ p.address = omega arith in
                ap (λ (x : ℕ). side_at x e) w ∙ alike-new d t a c (h ∙ ap suc g) e l)
                (path_gains link link' m r root_gains step_gains none_gained a c i h)

            leading_by : (d : ℕ) → EndsBehind link m p.address d at side → Leading
            leading_by d t =
                record {
                  root = root_kept;
                  step = step_kept;
                  back = λ u a c i e. absurd (omega (arith, u r linked));
                  arrives =
                      along d (λ i x l. other-kept p.address i (full i x l)) (arrives_at d t) (arrives_after d t);
                  taken = taken_now;
                  led = led_now;
                  alike = alike_now d t;
                  bare = bare_now;
                }

          pub leading_linked : (d : ℕ) → EndsBehind link m p.address d at side → Leading
          leading_linked d t = leading_by (vacant d t) d t
