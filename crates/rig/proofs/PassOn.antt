-- Exports that pass a lent struct on to a setter (`Rattle.math.proofs.Setter`), with the value copied out from behind a `&`.
-- One walk of the MIR, by hand, for any two structs of plain data: the value is looked into and copied, and the `&mut` is given to the setter
-- for good. So the export promises of the struct at exit what the setter promises.
-- Assumes nothing.
use mathlib.Core.Path.{refl, sym, ap, subst}
use Prim.Native.Nat.{ℕ}
use mathlib.Core.List.{[], ◌∷◌, List}
use seplogic.Ra.Ura.{Ura}
use lib.Dec.{T}
use mir.Syntax.{Fn, Callee, named, erased, mut, imm, ty_ref, ty_unit, place, deref, copy, opd_unit, rv_opd, addr_of, local, value_local}
use mir.Syntax.{assign, call, seq, return}
use mir.Val.{Val, vunit, vptr, has_ty, WT}
use base.Logic.{SProp, ent, sep, ex, emp, via, mono_l, fst∗, ex_i, ex_e, id⊢}
use base.Fml.{GName, Lft, Share, Fml, ftrue, fsep, flft, fres, fbor}
use prog.Model.{Model}
use prog.Wp.{Calls, Loops, WpFn}
use types.Logic.{Logic, sem}
use contract.Monad.{fact}
use contract.Running.{Running}
use types.Kit.{‵, raw, ◌⊛◌, some, later, ◌$◌, ◌∵◌, !, qed, by, move, keep, drop, use1, use3, split, join, pick, fsplit, fjoin}
use types.Kit.{feq_i, feq_l, suffices, frame, await, done}
use types.Run.{look, look_raw, init, forget, stop, hop, from, load, addr, unit_lit, of_opd, and_then, no_more, assigns, land, returns, enter}
use types.Run.{alloc1, alloc0, params1, pass1, pass0, free1, free0}
use types.SemTy.{Body}
use sound.WpLaws.{FmC}
use denote.Builtin.{RefMutOf, RefOf, unit}
use denote.Exit.{left, yes}
use denote.RattleType.{owns}
use denote.Laws.{Is, shows}
use denote.Memory.{mem, hidden_shr, pointee}
use denote.Ref.{Bor, MutBor, MutRef, ShrRef, mut_vals, shr_vals, mut_Tells, shr_Tells}
use denote.Signature.{plain}
use denote.Steps.{looks, shuts, owned, peeks, heard, nothing, only}
use denote.Struct.Declared.{shape}
use denote.Struct.Struct.{layout}
use denote.Struct.Steps.{spelt}
use denote.Struct.Laws as LL
use denote.Triple.Statement.{Contract, Triple}
use denote.Triple.Call.{calls_at}
use denote.Triple.Clauses.{Ended, Clauses, closing, ensured}
use denote.Triple.Entry.{on_entry}
use denote.Triple.Spec.{triple_of}
use denote.Triple.Walked.{says, Stays, gave_ref, stay_none_ref, walk_of, AllGo, Goes-gave_ref, Goes-none_ref, Walks, ends_at, walked}
use Rattle.math.proofs.Called.{ByCallee, by_callee}
use Rattle.math.proofs.Setter.{Plain, R, Q, lent, set_clauses}

module _ (S N : Plain) where
  abbrev export : Ended
  export = record {
    signature = record {
      lifetimes = 2;
      outlives = [];
      params = RefMutOf (0 ∷ []) tt (plain (λ _. R S N)) (λ _. tt) ∷ RefOf (1 ∷ []) tt (plain (λ _. Q S N)) (λ _. tt) ∷ [];
      result = plain (λ _. unit);
    };
    kept = (yes, (yes, tt));
  }

  -- `s.set(*n);`, the key of `set` given
  abbrev passes : Callee → Fn
  passes key = record {
    lifetimes = 2;
    outlives = [];
    ty_params = [];
    givens = 0;
    params = 2;
    locals = local ty_unit value_local ∷ local (ty_ref (named 0) mut (pointee (R S N).written)) value_local
        ∷ local (ty_ref (named 1) imm (pointee (Q S N).written)) value_local ∷ local ty_unit value_local
        ∷ local (ty_ref erased mut (pointee (R S N).written)) value_local ∷ local (layout (shape N.type)) value_local ∷ [];
    body = seq (assign (place 4 []) (addr_of (place 1 (deref (layout (shape S.type)) ∷ []))))
        (seq (assign (place 5 []) (rv_opd (copy (place 2 (deref (layout (shape N.type)) ∷ [])))))
        (seq (call key (copy (place 4 []) ∷ copy (place 5 []) ∷ []) (place 3 [])) (seq (assign (place 0 []) (rv_opd opd_unit)) return)));
  }

  abbrev stayed : Stays export.signature.params export.kept
  stayed = (gave_ref (0 ∷ []) tt (plain (λ _. R S N)), (stay_none_ref (1 ∷ []) tt (plain (λ _. Q S N)) yes, tt))

  -- r is the last struct under the ghost name of the `&mut`, and its borrow is closed
  abbrev last : Lft → MutBor S.type.D → S.type.D → Fml
  last κ x r = fsep (fres x.ghost_name ((R S N).coded.code r)) (fbor κ (Body (mem (R S N)) x.ref_ptr.0 x.ref_ptr.1 x.ghost_name))

  -- what is promised of the struct, the value, and the struct that is left
  module _ (φ : S.type.D → N.type.D → S.type.D → Type 0) where
    module _ {M : Type 1} (𝓤 : Ura M) where
      abbrev pass_clauses : Clauses 𝓤 export
      pass_clauses κs a = record { ghost = Unit {0}; requires = λ _. emp 𝓤; ensures = λ _ _ e. fact 𝓤 (φ a.0.now a.1.0.now e.0.now) }

      -- the setter's contract
      abbrev Set : (𝓛 : Logic 𝓤) → Contract 𝓤
      Set 𝓛 = triple_of 𝓛 (lent S N).signature (closing 𝓛 (lent S N) (set_clauses S N φ 𝓤))

      -- of the setter's `ensured`: some struct that is the last one under the ghost name, with the borrow closed, and the promise
      told : (𝓛 : Logic 𝓤) (κ : Lft) (x : MutBor S.type.D) (n : N.type.D)
          → ent 𝓤 (ensured 𝓛 (lent S N) (set_clauses S N φ 𝓤) (κ, tt) (x, (n, tt)) tt tt)
          (ex 𝓤 (λ (r : S.type.D). sep 𝓤 (sem 𝓛 (last κ x r)) (fact 𝓤 (φ x.now n r))))
      told 𝓛 κ x n =
          ex_e 𝓤 _ (λ ws.
          let P : SProp 𝓤 = sem 𝓛 (last κ x ws.0) in
          let F : SProp 𝓤 = fact 𝓤 (φ x.now n ws.0) in
          let L : SProp 𝓤 = sem 𝓛 (fsep (left ((Q S N).exit yes) n ws.1.0) ftrue) in
          via 𝓤 (sep 𝓤 P F) (mono_l 𝓤 F (fst∗ 𝓤 P L))
          (ex_i 𝓤 (λ (r : S.type.D). sep 𝓤 (sem 𝓛 (last κ x r)) (fact 𝓤 (φ x.now n r))) ws.0))

    module _ (key : Callee) where
      module _ {M : Type 1} {𝓤 : Ura M} (𝓛 : Logic 𝓤) where
        open 𝓛 use {H, A}

        module _ (κ κ' : Lft) (q q' : Share) (b o : ℕ) (γ : GName) (h : S.type.D) (b' o' : ℕ) (n : N.type.D) where
          abbrev s : MutBor S.type.D
          s = record { ref_ptr = (b, o); ghost_name = γ; now = h }

          abbrev x : MutBor S.type.D × (Bor N.type.D × Unit {0})
          x = (s, (record { ref_ptr = (b', o'); now = n }, tt))

          abbrev nv : Val
          nv = LL.val N.type N.laws n

          abbrev at : List Val × (List Val × Unit {0})
          at = (vptr b o ∷ [], (vptr b' o' ∷ [], tt))

          abbrev bound : (walk_of 𝓛 export stayed (pass_clauses 𝓤)).Ghost
          bound = (((κ, (κ', tt)), (q, (q', tt)), tt, x, at), tt)

          abbrev Post : Val → SProp 𝓤
          Post = (walk_of 𝓛 export stayed (pass_clauses 𝓤)).post bound

          exits : (r : S.type.D) → φ h n r
              → ent 𝓤 (sep 𝓤 (A.lft κ q) (sep 𝓤 (sem 𝓛 (last κ s r)) (sep 𝓤 (A.lft κ' q') (sem 𝓛 (hidden_shr (Q S N) κ' n b' o'))))) (Post vunit)
          exits r e =
              qed 𝓛 (‵ (flft κ q) ∷ ‵ (last κ s r) ∷ ‵ (flft κ' q') ∷ ‵ (hidden_shr (Q S N) κ' n b' o') ∷ []) ∵
              suffices ! _ (ends_at 𝓛 export stayed (pass_clauses 𝓤) bound vunit tt (r, (tt, tt)) (tt, (tt, tt))) $ says ! e $
              nothing ! $ move ! (3 ∷ 0 ∷ []) $ join ! $ move ! (1 ∷ 0 ∷ []) $ join ! $ frame ! $
              feq_i ! (List Val) (vptr b' o' ∷ []) (vptr b' o' ∷ []) refl $ move ! (0 ∷ 2 ∷ []) $ fjoin ! $
              nothing ! $ move ! (1 ∷ 0 ∷ []) $ fjoin ! $ move ! (1 ∷ 0 ∷ []) $ fjoin ! $
              feq_i ! (List Val) (vunit ∷ []) (vunit ∷ []) refl $ move ! (1 ∷ 0 ∷ []) $ done !

          abbrev to_set : (Set 𝓤 𝓛).Ghost
          to_set = (((κ, tt), (q, tt), tt, (s, (n, tt)), (vptr b o ∷ [], (nv ∷ [], tt))), tt)

          goes_set : ent 𝓤 (sep 𝓤 (A.lft κ q) (sep 𝓤 (sem 𝓛 ((MutRef (named 0) κ (R S N)).own_val s (vptr b o ∷ [])))
              (sem 𝓛 ((Q S N).own_val n (nv ∷ []))))) ((Set 𝓤 𝓛).pre to_set)
          goes_set =
              qed 𝓛 (‵ (flft κ q) ∷ ‵ ((MutRef (named 0) κ (R S N)).own_val s (vptr b o ∷ [])) ∷ ‵ ((Q S N).own_val n (nv ∷ [])) ∷ []) ∵
              nothing ! $ move ! (3 ∷ 0 ∷ []) $ join ! $ move ! (2 ∷ 0 ∷ []) $ join ! $ nothing ! $ move ! (2 ∷ 0 ∷ []) $ join ! $ join ! $ frame ! $ done !

          module _ (C : Calls 𝓤 H) (Λ : Loops 𝓤 H) (fm : FmC 𝓤 H 𝓛.laws C) (known : Triple 𝓤 (C key) (Set 𝓤 𝓛)) where
            walk : ent 𝓤 (on_entry 𝓛 export.signature (κ, (κ', tt)) (q, (q', tt)) x at)
                (WpFn 𝓤 H C Λ (passes key) (vptr b o ∷ vptr b' o' ∷ []) Post)
            walk =
                qed 𝓛 ((‵ (flft κ q) ⊛ (‵ (flft κ' q') ⊛ ‵ ftrue)) ∷ ‵ (owns (MutRef (named 0) κ (R S N) ∷ ShrRef (named 1) κ' (Q S N) ∷ []) x at) ∷ []) ∵
                split ! $ move ! (1 ∷ []) $ split ! $ move ! (3 ∷ []) $ fsplit ! $ move ! (1 ∷ []) $ fsplit ! $ fsplit ! $ drop ! $
                -- [what the `&` holds; true; the `&mut`; the value's token; true; the struct's token]
                move ! (0 ∷ 3 ∷ 2 ∷ 5 ∷ []) $
                enter ! C Λ (passes key) (vptr b o ∷ vptr b' o' ∷ []) _ $
                alloc1 ! (λ l₀. alloc1 ! (λ l₁. alloc1 ! (λ l₂. alloc1 ! (λ l₃. alloc1 ! (λ l₄. alloc1 ! (λ l₅. alloc0 ! $ params1 ! $
                pass1 ! (init ! 8 refl (tt, tt)) $ pass1 ! (init ! 6 refl (tt, tt)) $ pass0 ! $
                assigns ! (addr ! (from ! (hop ! (look ! 8 refl) (stop !)))) (from ! (stop !)) (init ! 2 refl (tt, tt)) $
                move ! (12 ∷ 13 ∷ []) $
                looks ! tt (Q S N) (LL.copied N.type N.copies 𝓛).opens n b' o' (λ t vs.
                spelt ! (Q S N) (Is (Q S N)) (shows 𝓛 (Q S N)) (LL.vals N.type N.laws) (LL.tells N.type N.laws) t n vs b' o' $
                move ! (1 ∷ []) $ peeks ! (Q S N) (Is (Q S N)) (shows 𝓛 (Q S N)) n (nv ∷ []) (λ is. move ! (1 ∷ 0 ∷ []) $
                -- [a share of the value's cell; what it owns; what shuts it; what the `&` holds; _5; …; _4; …; _3; …; _2; …; _1; …; _0; …;
                -- the `&mut`; the struct's token; ..]
                assigns ! (of_opd ! (load ! (from ! (hop ! (look ! 10 refl) (stop !))) (look_raw ! 0 refl))) (from ! (stop !))
                (init ! 4 refl ((LL.lawful N.type N.laws 𝓛).typed n _ is).0) $
                shuts ! tt (Q S N) t n (nv ∷ []) b' o' $
                owned ! (Q S N) (Is (Q S N)) ((LL.makes N.type N.plains) 𝓛) n _ is $
                -- [what the copy owns; the value's token; what the `&` holds; _5; …; _4; …; _3; …; _2; …; _1; …; _0; …; the `&mut`; ..]
                move ! (16 ∷ 15 ∷ 0 ∷ []) $ use3 𝓛 (raw ((Set 𝓤 𝓛).pre to_set)) goes_set $
                calls_at ! fm (Set 𝓤 𝓛) known to_set
                (and_then ! (load ! (from ! (stop !)) (look ! 5 refl)) (and_then ! (load ! (from ! (stop !)) (look ! 3 refl)) (no_more !))) (λ v.
                use1 𝓛 (later (some (λ (u : Unit {0}). ((‵ (flft κ q) ⊛ ‵ ftrue) ⊛ ‵ (unit.own_val u (v ∷ [])))
                ⊛ raw (ensured 𝓛 (lent S N) (set_clauses S N φ 𝓤) (κ, tt) (s, (n, tt)) tt u)))) (id⊢ 𝓤 _) $ await ! tt $ pick ! (λ u.
                split ! $ move ! (1 ∷ []) $
                use1 𝓛 (some (λ (r : S.type.D). ‵ (last κ s r) ⊛ raw (fact 𝓤 (φ h n r)))) (told 𝓤 𝓛 κ s n) $ pick ! (λ r.
                split ! $ move ! (1 ∷ []) $ heard ! (φ h n r) (λ e. move ! (1 ∷ []) $ split ! $ move ! (1 ∷ []) $ feq_l ! (λ is-unit. split ! $
                -- [the struct's token; true; its last value; the value's token; what the `&` holds; _5; …; _4; …; _3; …; _2; …; _1; …; _0; …; ..]
                land ! (from ! (stop !)) (init ! 9 refl (subst (λ (y : Val). T (has_ty ty_unit y) × WT y) (sym (ap only is-unit)) (tt, tt))) $
                assigns ! (of_opd ! (unit_lit !)) (from ! (stop !)) (init ! 15 refl (tt, tt)) $
                returns ! (look ! 15 refl) $ forget ! 5 refl $ forget ! 7 refl $ forget ! 9 refl $ forget ! 11 refl $ forget ! 13 refl $ forget ! 15 refl $
                move ! (15 ∷ 16 ∷ []) $ free1 ! $ move ! (13 ∷ 14 ∷ []) $ free1 ! $ move ! (11 ∷ 12 ∷ []) $ free1 ! $
                move ! (9 ∷ 10 ∷ []) $ free1 ! $ move ! (7 ∷ 8 ∷ []) $ free1 ! $ move ! (5 ∷ 6 ∷ []) $ free1 ! $ free0 ! $
                keep ! (0 ∷ 2 ∷ 3 ∷ 4 ∷ []) $ by ! (exits r e))))))))))))))

        walks : (C : Calls 𝓤 H) (Λ : Loops 𝓤 H) → FmC 𝓤 H 𝓛.laws C → Triple 𝓤 (C key) (Set 𝓤 𝓛)
            → Walks 𝓛 export stayed (WpFn 𝓤 H C Λ (passes key)) (pass_clauses 𝓤)
        walks C Λ fm known =
            walked 𝓛 export stayed (pass_clauses 𝓤) (WpFn 𝓤 H C Λ (passes key)) (λ κs. (mut_vals, (shr_vals, tt)))
            (λ κs. (mut_Tells (named 0) κs.0 (R S N), (shr_Tells (named 1) κs.1.0 (Q S N), tt)))
            (λ κs qs bounds a _ _. via 𝓤 _ (fst∗ 𝓤 _ (emp 𝓤))
            (walk κs.0 κs.1.0 qs.0 qs.1.0 a.0.ref_ptr.0 a.0.ref_ptr.1 a.0.ghost_name a.0.now
            a.1.0.ref_ptr.0 a.1.0.ref_ptr.1 a.1.0.now C Λ fm known))

        goes : AllGo 𝓛 2 export.signature.params export.kept stayed
        goes = (Goes-gave_ref 𝓛 2 0 tt (plain (λ _. R S N)), (Goes-none_ref 𝓛 2 (1 ∷ []) tt (plain (λ _. Q S N)) yes, tt))

      -- a function whose MIR is `passes` meets its contract, by the setter's theorem
      pub pass_on_spec : {M : Type 1} {𝓤 : Ura M} (𝓛 : Logic 𝓤) (𝓜 : Model 𝓤 𝓛.H) (𝓡 : Running 𝓤 𝓛.H 𝓜)
          → ByCallee 𝓛 𝓜 𝓡 export (pass_clauses 𝓤) (passes key) key (lent S N) (set_clauses S N φ 𝓤)
      pass_on_spec {𝓤 = 𝓤} 𝓛 𝓜 𝓡 =
          by_callee 𝓛 𝓜 𝓡 export (pass_clauses 𝓤) (passes key) key (lent S N) (set_clauses S N φ 𝓤) stayed
          (goes 𝓛) (walks 𝓛)
