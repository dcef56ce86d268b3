-- The node sets around a bind of a form are those of its binds: each means what an expression does that the law of two forests covers.
use Rattle.std.proofs.Common.{◌≡◌, ℕ, zero, suc, List, [], ◌∷◌, ◌++◌, map, Option, Some, None, refl, sym, ap, ◌∙◌}
use Rattle.std.specs.Prelude.{get_or}
use Rattle.std.proofs.lemmas.List.{map-append}
use Rattle.xf_def_syntax.specs.declared.expr.Expr.{Expr}
use Rattle.xf_def_syntax.specs.declared.form.Bind.{Bind}
use Rattle.xf_def_xpath.specs.Asked.{Trace}
use Rattle.xf_def_xpath.specs.Reads.{trace}
use Rattle.xf_def_model.specs.Rules.{rule_of, chain_around, chains_after}
use Rattle.xf_def_model.specs.Pertinent.{AllOf}
use Rattle.xf_law_recalculation.specs.Bind.WithTexts.{IsCovered}

pub record AreTold (ts : List Trace) : Type 0 where
  pub exprs : List Expr
  pub are : ts ≡ map trace exprs
  pub covered : AllOf IsCovered exprs

none-told : AreTold []
none-told = record { exprs = []; are = refl; covered = tt }

pub all-append : {X : Type 0} (P : X → Type 0) (xs ys : List X) → AllOf P xs → AllOf P ys → AllOf P (xs ++ ys)
all-append P [] ys h k = k
all-append P (x ∷ xs) ys h k = (h.0, all-append P xs ys h.1 k)

told-append : (ts us : List Trace) → AreTold ts → AreTold us → AreTold (ts ++ us)
told-append ts us g h = record {
  exprs = g.exprs ++ h.exprs;
  are = ap (λ l. l ++ us) g.are ∙ ap (λ l. map trace g.exprs ++ l) h.are ∙ sym (map-append trace g.exprs h.exprs);
  covered = all-append IsCovered g.exprs h.exprs g.covered h.covered;
}

got : (known : List (List Trace)) (k : ℕ) → AllOf AreTold known → AreTold (get_or known k [])
got [] k g = none-told
got (ts ∷ known) zero g = g.0
got (ts ∷ known) (suc k) g = got known k g.1

pub around-told : (known : List (List Trace)) (around : Option ℕ) → AllOf AreTold known → AreTold (chain_around known around)
around-told known None g = none-told
around-told known (Some k) g = got known k g

pub chains-told : (known : List (List Trace)) (binds : List Bind) → AllOf AreTold known → AllOf (λ (bind : Bind). IsCovered bind.node_set) binds → AllOf AreTold (chains_after known (map rule_of binds))
chains-told known [] g h = g
chains-told known (bind ∷ binds) g h =
    chains-told (known ++ (chain_around known bind.around ++ trace bind.node_set ∷ []) ∷ []) binds
    (all-append AreTold known ((chain_around known bind.around ++ trace bind.node_set ∷ []) ∷ []) g
    (told-append (chain_around known bind.around) (trace bind.node_set ∷ []) (around-told known bind.around g) (record { exprs = bind.node_set ∷ []; are = refl; covered = (h.0, tt) }), tt)) h.1
