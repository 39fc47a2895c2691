-- Functions proved by hand that call one other: from a walk of the MIR, over any tables whose entry for the callee meets the callee's contract,
-- to the function's own theorem. The laws of `Denote/Triple/Walked.antt` and `Table.antt`, put together once.
-- Assumes nothing.
use mathlib.Core.Path.{◌≡◌, subst}
use seplogic.Ra.Ura.{Ura}
use mir.Syntax.{Fn, Callee}
use prog.Routine.{Routine, Env}
use prog.Model.{Model}
use prog.Wp.{Calls, Loops, WpFn, Closed}
use types.Logic.{Logic}
use contract.Running.{Running, tables, tables_of}
use sound.WpLaws.{FmC, fm_of, WpFn-mono}
use denote.Triple.Statement.{Contract, Triple}
use denote.Triple.Clauses.{Ended, Clauses, closing}
use denote.Triple.Spec.{triple_of}
use denote.Triple.Table.{entered, cited}
use denote.Triple.Walked.{Stays, AllGo, Walks, walk_Meets}

module _ {M : Type 1} {𝓤 : Ura M} (𝓛 : Logic 𝓤) (𝓜 : Model 𝓤 𝓛.H) (𝓡 : Running 𝓤 𝓛.H 𝓜) where
  open 𝓛 use {H}

  abbrev Contracted : (T : Ended) → Clauses 𝓤 T → Contract 𝓤
  Contracted T c = triple_of 𝓛 T.signature (closing 𝓛 T c)

  -- the function f with the clauses c, in any environment that has by its key a callee whose own clauses are d, those that the walk goes by
  module _ (T : Ended) (c : Clauses 𝓤 T) (f : Fn) (key : Callee) (U : Ended) (d : Clauses 𝓤 U) where
    abbrev pub ByCallee : Type 2
    ByCallee =
        (own : Clauses 𝓤 U) → own ≡ d
        → (env : Env) (own_key : Callee) → Closed 𝓤 H (tables 𝓤 H 𝓜 𝓡 env).C (tables 𝓤 H 𝓜 𝓡 env).Λ own_key f
        → (callee : Routine) → env key ≡ callee → Triple 𝓤 (𝓡.run callee) (Contracted U own) → Triple 𝓤 (𝓡.run (env own_key)) (Contracted T c)

    pub by_callee : (hs : Stays T.signature.params T.kept)
        → AllGo 𝓛 T.signature.lifetimes T.signature.params T.kept hs
        → ((C : Calls 𝓤 H) (Λ : Loops 𝓤 H) → FmC 𝓤 H 𝓛.laws C → Triple 𝓤 (C key) (Contracted U d)
        → Walks 𝓛 T hs (WpFn 𝓤 H C Λ f) c)
        → ByCallee
    unfolding tables_of
    by_callee hs goes walks own same env own_key unfolded callee calls known =
        let 𝓣 = tables_of 𝓤 H 𝓜 (tables 𝓤 H 𝓜 𝓡 env) in
        let known' = subst (λ (e : Clauses 𝓤 U). Triple 𝓤 (𝓡.run callee) (Contracted U e)) same known in
        entered 𝓤 H (Contracted T c) 𝓣.C 𝓣.Λ own_key f unfolded
        (walk_Meets 𝓛 T hs goes c (WpFn 𝓤 H 𝓣.C 𝓣.Λ f) (WpFn-mono 𝓤 H 𝓛.laws 𝓣 f)
        (walks 𝓣.C 𝓣.Λ (fm_of 𝓤 H 𝓛.laws 𝓣) (cited 𝓤 H (Contracted U d) 𝓜 𝓡 env key callee calls known')))
