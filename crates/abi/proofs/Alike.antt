-- An export whose promise is that of the one function it calls: what the callee asks is what the export has, and what the callee gives is
-- what the export owes, so that both are handed on whole. A walk has to say only where the arguments and the answer stand.
use mathlib.Core.Path.{sym, subst}
use mathlib.Core.List.{List, [], ◌∷◌}
use seplogic.Ra.Ura.{Ura}
use mir.Syntax.{Callee, Fn, Place, Body}
use mir.Val.{Val}
use base.Logic.{ent, sep, via, fst∗, snd∗, id⊢, ex_i}
use prog.Model.{Model}
use prog.Routine.{Env}
use prog.Wp.{Env as Locals, Calls, Loops, Closed, WpFn}
use types.Logic.{Logic, sem}
use contract.Monad.{fact_use}
use contract.Lifetimes.{Lfts, Shares, AllOutlive}
use contract.Running.{Running, tables}
use types.Kit.{Item, ‵, raw, some, later, ◌⊛◌, ◌$◌, Post, lands, Seq, move, use1, split, join, pick, await}
use denote.RattleType.{owns}
use denote.Laws.{Is, Spells, Tellss, Ises, Are, valss, shows, showss, owns_show, all_tell}
use denote.Signature.{Signature, type_at, types_at}
use denote.Steps.{peeks}
use denote.Triple.Entry.{Args, Vals, Res, alive, on_entry}
use denote.Triple.Spec.{Spec, Back, triple_of}
use denote.Triple.Statement.{Contract, Triple}
use denote.Triple.Table.{entered}

-- the answer is of its type, and what came with it stays whole
pub answers : {M : Type 1} {𝓤 : Ura M} {𝓛 : Logic 𝓤} {K : Type 0} {Γ : List (Item 𝓤)} {C : Calls 𝓤 𝓛.H} {Λ : Loops 𝓤 𝓛.H} {E : Locals 𝓤 𝓛.H} {d : Place} {rest : Body} {q : Post 𝓤 𝓛.H} → K
    → (S : Signature) (c : Spec 𝓤 S) (y : (triple_of 𝓛 S c).Ghost) (v : Val)
    → ((r : Res S y.0.0) → Is (type_at S.result y.0.0) r (v ∷ []) → Seq K 𝓛 (raw ((triple_of 𝓛 S c).post y v) ∷ Γ) (lands C Λ E d v rest q))
    → Seq K 𝓛 (raw ((triple_of 𝓛 S c).post y v) ∷ Γ) (lands C Λ E d v rest q)
answers {𝓤 = 𝓤} {𝓛 = 𝓛} t S c y v k =
    use1 𝓛 (later (some (λ (r : Res S y.0.0). (raw (alive 𝓛 S y.0.0 y.0.1) ⊛ ‵ ((type_at S.result y.0.0).own_val r (v ∷ []))) ⊛ raw ((c y.0.0 y.0.3).ensures y.1 r)))) (id⊢ 𝓤 _) $
    await t tt $ pick t (λ r. split t $ split t $ move t (1 ∷ []) $ peeks t (type_at S.result y.0.0) (Is (type_at S.result y.0.0)) (shows 𝓛 (type_at S.result y.0.0)) r (v ∷ []) (λ is.
    move t (1 ∷ 0 ∷ []) $ join t $ join t $
    use1 𝓛 (raw ((triple_of 𝓛 S c).post y v))
    (via 𝓤 _ (ex_i 𝓤 (λ (r' : Res S y.0.0). sep 𝓤 (Back 𝓛 S y.0 v r') ((c y.0.0 y.0.3).ensures y.1 r')) r) (𝓛.laws.⇛_intro _)) $ k r is))

module _ {M : Type 1} {𝓤 : Ura M} (𝓛 : Logic 𝓤) (𝓜 : Model 𝓤 𝓛.H) (𝓡 : Running 𝓤 𝓛.H 𝓜) (γ : Env) (S : Signature) (c : Spec 𝓤 S) where
  open 𝓛 use {H}

  abbrev pub Promise : Contract 𝓤
  Promise = triple_of 𝓛 S c

  -- the parameters' machine values are spelled by sp, which tl says that their relations tell; k is the walk
  pub alike : (n : Callee) (e : Fn) → Closed 𝓤 H (tables 𝓤 H 𝓜 𝓡 γ).C (tables 𝓤 H 𝓜 𝓡 γ).Λ n e
      → (sp : (κs : Lfts S.lifetimes) → Spells (types_at S.params κs)) → ((κs : Lfts S.lifetimes) → Tellss (types_at S.params κs) (Ises (types_at S.params κs)) (sp κs))
      → ((κs : Lfts S.lifetimes) (qs : Shares S.lifetimes) (bounds : AllOutlive S.lifetimes S.outlives κs) (a : Args S κs) (g : (c κs a).ghost)
      → Are (types_at S.params κs) (Ises (types_at S.params κs)) a (valss (types_at S.params κs) (sp κs) a)
      → let y : Promise.Ghost = ((κs, qs, bounds, a, valss (types_at S.params κs) (sp κs) a), g) in
      ent 𝓤 (Promise.pre y) (WpFn 𝓤 H (tables 𝓤 H 𝓜 𝓡 γ).C (tables 𝓤 H 𝓜 𝓡 γ).Λ e (Promise.args y) (Promise.post y)))
      → Triple 𝓤 ((tables 𝓤 H 𝓜 𝓡 γ).C n) Promise
  alike n e closed sp tl k =
      entered 𝓤 H Promise (tables 𝓤 H 𝓜 𝓡 γ).C (tables 𝓤 H 𝓜 𝓡 γ).Λ n e closed (λ y.
      let κs = y.0.0 in let a = y.0.3 in let Rs = types_at S.params κs in
      let at : Vals S κs → Promise.Ghost = λ us. ((κs, y.0.1, y.0.2, a, us), y.1) in
      fact_use 𝓤 (Are Rs (Ises Rs) a y.0.4)
      (via 𝓤 _ (fst∗ 𝓤 (on_entry 𝓛 S κs y.0.1 a y.0.4) ((c κs a).requires y.1))
      (via 𝓤 _ (snd∗ 𝓤 (alive 𝓛 S κs y.0.1) (sem 𝓛 (owns Rs a y.0.4))) (owns_show 𝓛 Rs (Ises Rs) (showss 𝓛 Rs) a y.0.4)))
      (λ are. let told = all_tell Rs (Ises Rs) (sp κs) (tl κs) a y.0.4 are in
      subst (λ (us : Vals S κs). ent 𝓤 (Promise.pre (at us)) (WpFn 𝓤 H (tables 𝓤 H 𝓜 𝓡 γ).C (tables 𝓤 H 𝓜 𝓡 γ).Λ e (Promise.args (at us)) (Promise.post (at us)))) (sym told)
      (k κs y.0.1 y.0.2 a y.1 (subst (Are Rs (Ises Rs) a) told are))))
