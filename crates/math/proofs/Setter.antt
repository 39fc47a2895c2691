-- Setters: a function that copies a struct out from behind a `&mut`, has another function change the copy by a value, and stores it back.
-- One walk of the MIR, by hand, for any two structs of plain data and any such function: the borrow is opened, the struct is copied out, the
-- function is called, and the borrow is closed at what it returned. So the setter promises of the struct at exit what that function promises.
-- Assumes nothing.
use mathlib.Core.Path.{◌≡◌, refl, sym, subst}
use Prim.Native.Nat.{ℕ}
use mathlib.Core.List.{[], ◌∷◌, List}
use seplogic.Ra.Ura.{Ura}
use base.Fraction.{full_share}
use mir.Syntax.{Fn, Callee, named, mut, ty_ref, ty_unit, place, deref, copy, opd_unit, rv_opd, local, value_local, assign, call, seq, return}
use mir.Val.{Val, vunit, vptr}
use base.Logic.{SProp, ent, sep, emp, via, fst∗, snd∗, ex_e, id⊢}
use base.Fml.{GName, Lft, Share, ftrue, flft, fobs, fbor}
use prog.Model.{Model}
use prog.Wp.{Calls, Loops, WpFn}
use types.Logic.{Logic, sem}
use contract.Monad.{fact}
use contract.Running.{Running}
use types.Kit.{‵, raw, ◌⊛◌, some, later, ◌$◌, ◌∵◌, !, qed, by, move, keep, drop, use1, use2, split, join, pick, fsplit, fsplit3, fjoin, fjoin3}
use types.Kit.{feq_i, suffices, frame, await, done}
use types.Run.{look, look_raw, store_raw, init, forget, stop, hop, from, load, unit_lit, of_opd, and_then, no_more, assigns, land, returns, enter}
use types.Run.{alloc1, alloc0, params1, pass1, pass0, free1, free0}
use types.SemTy.{Body}
use sound.WpLaws.{FmC}
use denote.Builtin.{RefMutOf, unit}
use denote.Exit.{Exit, Last, left, unchanged, yes}
use denote.RattleType.{RattleType, owns}
use denote.Laws.{Is, shows}
use denote.Memory.{mem, pointee}
use denote.Ref.{MutBor, MutRef, mut_vals, mut_Tells}
use denote.Signature.{plain}
use denote.Steps.{opens, closes, owned, peeks, heard, nothing}
use denote.Struct.Declared.{Declared, row, fields, shape}
use denote.Struct.Struct.{Plains, layout}
use denote.Struct.Steps.{spelt}
use denote.Struct.Laws as LL
use denote.Triple.Statement.{Contract, Triple}
use denote.Triple.Call.{calls_at}
use denote.Triple.Clauses.{Ended, Clauses, closing, ensured, lasts}
use denote.Triple.Entry.{on_entry}
use denote.Triple.Spec.{triple_of}
use denote.Triple.Walked.{says, Stays, stay_ref, stay_none, walk_of, AllGo, Goes-none, Goes-ref, Walks, ends_at, walked}
use Rattle.math.proofs.Called.{ByCallee, by_callee}
use Rattle.math.specs.contracts.Vec3 as Vec3
use Rattle.math.proofs.Vec3.TheLaws as Vec3'
use Rattle.math.specs.contracts.Vec4 as Vec4
use Rattle.math.proofs.Vec4.TheLaws as Vec4'
use Rattle.math.specs.contracts.Mat4 as Mat4
use Rattle.math.proofs.Mat4.TheLaws as Mat4'

-- a struct of plain data, with its laws
pub record Plain : Type 2 where
  pub type : Declared
  pub laws : LL.Laws type
  pub plains : Plains (fields type)
  pub copies : LL.Copyables type.parts

-- of plain data a contract binds nothing at exit, and says nothing
still : (P : Plain) → (row P.type).exit yes ≡ unchanged
still P = LL.still P.type P.copies yes

last_of : {D : Type 0} (e : Exit D) → e ≡ unchanged → (x : D) → Last e x
last_of e p x = subst (λ (d : Exit _). Last d x) (sym p) tt

silent_of : {D : Type 0} (e : Exit D) → e ≡ unchanged → (x : D) (f : Last e x) → left e x f ≡ ftrue
silent_of {D} e p = subst (λ (d : Exit D). (x : D) (f : Last d x) → left d x f ≡ ftrue) (sym p) (λ x f. refl)

-- the struct S that is set, and the value N that it is set by
module _ (S N : Plain) where
  abbrev pub R : RattleType
  R = row S.type

  abbrev pub Q : RattleType
  Q = row N.type

  -- the callee: the struct by value, the value, and the struct returned
  abbrev by_value : Ended
  by_value = record {
    signature = record { lifetimes = 0; outlives = []; params = plain (λ _. R) ∷ plain (λ _. Q) ∷ []; result = plain (λ _. R) };
    kept = (yes, (yes, tt));
  }

  abbrev pub lent : Ended
  lent = record {
    signature = record {
      lifetimes = 1;
      outlives = [];
      params = RefMutOf (0 ∷ []) tt (plain (λ _. R)) (λ _. tt) ∷ plain (λ _. Q) ∷ [];
      result = plain (λ _. unit);
    };
    kept = (yes, (yes, tt));
  }

  -- `let a = *s; *s = f(a, n);`, f's key given
  abbrev setter : Callee → Fn
  setter key = record {
    lifetimes = 1;
    outlives = [];
    ty_params = [];
    givens = 0;
    params = 2;
    locals = local ty_unit value_local ∷ local (ty_ref (named 0) mut (pointee R.written)) value_local ∷ local (layout (shape N.type)) value_local
        ∷ local (layout (shape S.type)) value_local ∷ local (layout (shape S.type)) value_local ∷ [];
    body = seq (assign (place 3 []) (rv_opd (copy (place 1 (deref (layout (shape S.type)) ∷ [])))))
        (seq (call key (copy (place 3 []) ∷ copy (place 2 []) ∷ []) (place 4 []))
        (seq (assign (place 1 (deref (layout (shape S.type)) ∷ [])) (rv_opd (copy (place 4 []))))
        (seq (assign (place 0 []) (rv_opd opd_unit)) return)));
  }

  abbrev stayed : Stays lent.signature.params lent.kept
  stayed = (stay_ref (0 ∷ []) tt (plain (λ _. R)), (stay_none (λ _. Q) yes, tt))

  -- what is promised of the struct, the value, and the struct that is left
  module _ (φ : S.type.D → N.type.D → S.type.D → Type 0) where
    module _ {M : Type 1} (𝓤 : Ura M) where
      abbrev with_clauses : Clauses 𝓤 by_value
      with_clauses κs a = record { ghost = Unit {0}; requires = λ _. emp 𝓤; ensures = λ _ r _. fact 𝓤 (φ a.0 a.1.0 r) }

      abbrev pub set_clauses : Clauses 𝓤 lent
      set_clauses κs a = record { ghost = Unit {0}; requires = λ _. emp 𝓤; ensures = λ _ _ e. fact 𝓤 (φ a.0.now a.1.0 e.0.now) }

      -- the contract that the walk cites
      abbrev With : (𝓛 : Logic 𝓤) → Contract 𝓤
      With 𝓛 = triple_of 𝓛 by_value.signature (closing 𝓛 by_value with_clauses)

      -- of the callee's `ensured`, the clause alone
      made_of : (𝓛 : Logic 𝓤) (h : S.type.D) (n : N.type.D) (r : S.type.D)
          → ent 𝓤 (ensured 𝓛 by_value with_clauses tt (h, (n, tt)) tt r) (fact 𝓤 (φ h n r))
      made_of 𝓛 h n r = ex_e 𝓤 _ (λ ws. snd∗ 𝓤 (sem 𝓛 (lasts by_value tt (h, (n, tt)) ws)) (fact 𝓤 (φ h n r)))

    module _ (key : Callee) where
      module _ {M : Type 1} {𝓤 : Ura M} (𝓛 : Logic 𝓤) where
        open 𝓛 use {H, A}

        module _ (κ : Lft) (q : Share) (b o : ℕ) (γ : GName) (h : S.type.D) (n : N.type.D) where
          abbrev x : MutBor S.type.D × (N.type.D × Unit {0})
          x = (record { ref_ptr = (b, o); ghost_name = γ; now = h }, (n, tt))

          abbrev hv : Val
          hv = LL.val S.type S.laws h

          abbrev nv : Val
          nv = LL.val N.type N.laws n

          abbrev at : List Val × (List Val × Unit {0})
          at = (vptr b o ∷ [], (nv ∷ [], tt))

          abbrev Post : Val → SProp 𝓤
          Post = (walk_of 𝓛 lent stayed (set_clauses 𝓤)).post (((κ, tt), (q, tt), tt, x, at), tt)

          exits : (r : S.type.D) → φ h n r → Is Q n (nv ∷ [])
              → ent 𝓤 (sep 𝓤 (A.obs γ (R.coded.code r)) (sep 𝓤 (A.bor κ (Body (mem R) b o γ)) (A.lft κ q))) (Post vunit)
          exits r e is =
              qed 𝓛 (‵ (fobs γ (R.coded.code r)) ∷ ‵ (fbor κ (Body (mem R) b o γ)) ∷ ‵ (flft κ q) ∷ []) ∵
              suffices ! _ (ends_at 𝓛 lent stayed (set_clauses 𝓤) (((κ, tt), (q, tt), tt, x, at), tt) vunit tt
              (r, (last_of _ (still N) n, tt)) (tt, (tt, tt))) $
              says ! e $ nothing ! $ move ! (3 ∷ 0 ∷ []) $ join ! $ frame ! $
              feq_i ! (List Val) (vptr b o ∷ []) (vptr b o ∷ []) refl $ fjoin3 ! $ nothing ! $
              owned ! Q (Is Q) ((LL.makes N.type N.plains) 𝓛) n _ is $ fjoin ! $ move ! (1 ∷ 0 ∷ []) $ fjoin ! $
              feq_i ! (List Val) (vunit ∷ []) (vunit ∷ []) refl $ move ! (1 ∷ 0 ∷ []) $ done !

          abbrev to_with : (With 𝓤 𝓛).Ghost
          to_with = ((tt, tt, tt, (h, (n, tt)), (hv ∷ [], (nv ∷ [], tt))), tt)

          goes_with : ent 𝓤 (sep 𝓤 (sem 𝓛 (R.own_val h (hv ∷ []))) (sem 𝓛 (Q.own_val n (nv ∷ [])))) ((With 𝓤 𝓛).pre to_with)
          goes_with =
              qed 𝓛 (‵ (R.own_val h (hv ∷ [])) ∷ ‵ (Q.own_val n (nv ∷ [])) ∷ []) ∵ nothing ! $ move ! (2 ∷ 0 ∷ []) $ join ! $
              move ! (1 ∷ 0 ∷ []) $ join ! $ nothing ! $ join ! $ frame ! $ done !

          module _ (C : Calls 𝓤 H) (Λ : Loops 𝓤 H) (fm : FmC 𝓤 H 𝓛.laws C) (known : Triple 𝓤 (C key) (With 𝓤 𝓛)) where
            walk : Is Q n (nv ∷ []) → ent 𝓤 (on_entry 𝓛 lent.signature (κ, tt) (q, tt) x at) (WpFn 𝓤 H C Λ (setter key) (vptr b o ∷ nv ∷ []) Post)
            walk isn =
                qed 𝓛 ((‵ (flft κ q) ⊛ ‵ ftrue) ∷ ‵ (owns (MutRef (named 0) κ R ∷ Q ∷ []) x at) ∷ []) ∵
                split ! $ move ! (2 ∷ []) $ fsplit ! $ fsplit3 ! $ drop ! $ move ! (0 ∷ 1 ∷ 3 ∷ []) $
                -- [obs; the borrow; the token; ..]
                enter ! C Λ (setter key) (vptr b o ∷ nv ∷ []) _ $
                alloc1 ! (λ l₀. alloc1 ! (λ l₁. alloc1 ! (λ l₂. alloc1 ! (λ l₃. alloc1 ! (λ l₄. alloc0 ! $ params1 ! $
                pass1 ! (init ! 6 refl (tt, tt)) $ pass1 ! (init ! 4 refl ((LL.lawful N.type N.laws 𝓛).typed n _ isn).0) $ pass0 ! $
                move ! (10 ∷ 11 ∷ 12 ∷ []) $ opens ! tt R {h = h} b o (λ vs.
                spelt ! R (Is R) (shows 𝓛 R) (LL.vals S.type S.laws) (LL.tells S.type S.laws) full_share h vs b o $
                move ! (1 ∷ []) $ peeks ! R (Is R) (shows 𝓛 R) h (LL.vals S.type S.laws h) (λ was. move ! (1 ∷ 0 ∷ []) $
                -- [the struct's cell; what it owns; the open borrow; obs; auth; _4; …; _3; …; _2; …; _1; …; _0; …]
                assigns ! (of_opd ! (load ! (from ! (hop ! (look ! 11 refl) (stop !))) (look_raw ! 0 refl))) (from ! (stop !))
                (init ! 7 refl ((LL.lawful S.type S.laws 𝓛).typed h _ was).0) $
                owned ! R (Is R) ((LL.makes S.type S.plains) 𝓛) h _ was $
                owned ! Q (Is Q) ((LL.makes N.type N.plains) 𝓛) n _ isn $ move ! (1 ∷ 0 ∷ []) $
                use2 𝓛 (raw ((With 𝓤 𝓛).pre to_with)) goes_with $
                calls_at ! fm (With 𝓤 𝓛) known to_with
                (and_then ! (load ! (from ! (stop !)) (look ! 8 refl)) (and_then ! (load ! (from ! (stop !)) (look ! 10 refl)) (no_more !))) (λ w.
                use1 𝓛 (later (some (λ (r : S.type.D). (‵ ftrue ⊛ ‵ (R.own_val r (w ∷ [])))
                ⊛ raw (ensured 𝓛 by_value (with_clauses 𝓤) tt (h, (n, tt)) tt r)))) (id⊢ 𝓤 _) $ await ! tt $ pick ! (λ r.
                split ! $ move ! (1 ∷ []) $ use1 𝓛 (raw (fact 𝓤 (φ h n r))) (made_of 𝓤 𝓛 h n r) $ heard ! (φ h n r) (λ e. split ! $ drop ! $
                peeks ! R (Is R) (shows 𝓛 R) r (w ∷ []) (λ is.
                -- [what the new struct owns; the struct's cell; what the old one owns; the open borrow; obs; auth; _4; …; _3; …; _2; …; _1; …; _0; …]
                land ! (from ! (stop !)) (init ! 6 refl ((LL.lawful S.type S.laws 𝓛).typed r _ is).0) $
                assigns ! (of_opd ! (load ! (from ! (stop !)) (look ! 6 refl))) (from ! (hop ! (look ! 12 refl) (stop !)))
                (store_raw ! 1 refl ((LL.lawful S.type S.laws 𝓛).typed r _ is).0) $
                assigns ! (of_opd ! (unit_lit !)) (from ! (stop !)) (init ! 14 refl (tt, tt)) $
                move ! (2 ∷ []) $ drop ! $ move ! (1 ∷ 0 ∷ []) $ closes ! tt R r (w ∷ []) b o $
                returns ! (look ! 11 refl) $ forget ! 3 refl $ forget ! 5 refl $ forget ! 7 refl $ forget ! 9 refl $ forget ! 11 refl $
                move ! (11 ∷ 12 ∷ []) $ free1 ! $ move ! (9 ∷ 10 ∷ []) $ free1 ! $ move ! (7 ∷ 8 ∷ []) $ free1 ! $
                move ! (5 ∷ 6 ∷ []) $ free1 ! $ move ! (3 ∷ 4 ∷ []) $ free1 ! $ free0 ! $
                keep ! (0 ∷ 1 ∷ 2 ∷ []) $ by ! (exits r e isn))))))))))))

        walks : (C : Calls 𝓤 H) (Λ : Loops 𝓤 H) → FmC 𝓤 H 𝓛.laws C → Triple 𝓤 (C key) (With 𝓤 𝓛)
            → Walks 𝓛 lent stayed (WpFn 𝓤 H C Λ (setter key)) (set_clauses 𝓤)
        walks C Λ fm known =
            walked 𝓛 lent stayed (set_clauses 𝓤) (WpFn 𝓤 H C Λ (setter key)) (λ κs. (mut_vals, (LL.vals N.type N.laws, tt)))
            (λ κs. (mut_Tells (named 0) κs.0 R, (LL.tells N.type N.laws, tt)))
            (λ κs qs bounds a _ are. via 𝓤 _ (fst∗ 𝓤 _ (emp 𝓤))
            (walk κs.0 qs.0 a.0.ref_ptr.0 a.0.ref_ptr.1 a.0.ghost_name a.0.now a.1.0 C Λ fm known are.1.0))

        goes : AllGo 𝓛 1 lent.signature.params lent.kept stayed
        goes = (Goes-ref 𝓛 1 0 tt (plain (λ _. R)), (Goes-none 𝓛 1 (λ _. Q) yes (λ κs. silent_of _ (still N)), tt))

      -- a function whose MIR is `setter` meets its contract, by the theorem of the function that it calls
      pub setter_spec : {M : Type 1} {𝓤 : Ura M} (𝓛 : Logic 𝓤) (𝓜 : Model 𝓤 𝓛.H) (𝓡 : Running 𝓤 𝓛.H 𝓜)
          → ByCallee 𝓛 𝓜 𝓡 lent (set_clauses 𝓤) (setter key) key by_value (with_clauses 𝓤)
      setter_spec {𝓤 = 𝓤} 𝓛 𝓜 𝓡 =
          by_callee 𝓛 𝓜 𝓡 lent (set_clauses 𝓤) (setter key) key by_value (with_clauses 𝓤) stayed (goes 𝓛) (walks 𝓛)

-- ---- the structs of this crate
abbrev pub vec3-plain : Plain
vec3-plain = record { type = Vec3.the_type; laws = Vec3'.the_laws; plains = Vec3'.the_plain; copies = Vec3'.the_copy }

abbrev pub vec4-plain : Plain
vec4-plain = record { type = Vec4.the_type; laws = Vec4'.the_laws; plains = Vec4'.the_plain; copies = Vec4'.the_copy }

abbrev pub mat4-plain : Plain
mat4-plain = record { type = Mat4.the_type; laws = Mat4'.the_laws; plains = Mat4'.the_plain; copies = Mat4'.the_copy }
