-- What is read of a state whatever notes and calls there are.
use Rattle.std.proofs.Common.{ℕ, ◌≡◌, List, Option, Some, None, Ok, refl, ap, ◌∙◌}
use Rattle.xf_def_xpath.specs.Setting.{Focus, Meaning}
use Rattle.xf_def_xpath.specs.Conversions.{truth_of, number_of}
use Rattle.xf_def_ui.specs.Interface.{Bound}
use Rattle.xf_def_ui.specs.Interface as bound
use Rattle.xf_def_ui.specs.Around.{setting}
use Rattle.xf_def_ui.specs.Context.{context_of, inside}
use Rattle.xf_def_ui.specs.Elements.{element_at}
use Rattle.xf_def_ui.specs.Labels.{text_in}
use Rattle.xf_def_ui.specs.Named.{handler_rows}
use Rattle.xf_def_machine.specs.Profile.{Profile}
use Rattle.xf_def_machine.specs.State.{State}
use Rattle.xf_def_machine.specs.Refusal.{or_long}
use Rattle.xf_def_machine.specs.Flow.{◌>>=◌}
use Rattle.xf_def_machine.specs.Surround.{interface, quiet}
use Rattle.xf_def_machine.specs.Events.{Fired}
use Rattle.xf_def_machine.specs.Acting.{Acting, acting_with, acting_in, surroundings, binding_of, whole_of, value_for, truth_for, whole_for}
use Rattle.xf_def_machine.specs.Telling.{loaded_text}
use Rattle.xf_law_machine.specs.Beside.Beside.{Beside, beside, read_beside, ReadsBeside}
use Rattle.xf_law_machine.specs.Beside.Laws.{ReadingsGoBeside}
use Rattle.xf_law_machine.proofs.BesideLemmas.Going.{then-reads, long-reads}

acts-in : (p : Profile) (e : Fired) (n : ℕ) (b : Beside) (s : State) (o : Option (List ℕ)) → acting_in p e n (beside b s) o ≡ read_beside b (acting_in p e n s o)
acts-in p e n b s None = refl
acts-in p e n b s (Some rows) =
    let c = context_of (interface s) (quiet p s) rows n in
    ap (λ r. r >>= λ c. Ok (acting_with e n rows c)) (long-reads b s c) ∙ then-reads b (or_long s c) _ _ (λ c. refl)

value-reads : (p : Profile) (x : Acting) (c : Focus) (m : Meaning) → ReadsBeside (λ s. value_for p x s c m)
value-reads p x c m b s = long-reads b s (m (setting (surroundings p x s) x.model c.node) c)

truth-reads : (p : Profile) (x : Acting) (m : Meaning) → ReadsBeside (λ s. truth_for p x s m)
truth-reads p x m b s =
    ap (λ r. r >>= λ value. Ok (truth_of value)) (value-reads p x x.focus m b s) ∙ then-reads b (value_for p x s x.focus m) _ _ (λ value. refl)

whole-reads : (p : Profile) (x : Acting) (c : Focus) (m : Meaning) → ReadsBeside (λ s. whole_for p x s c m)
whole-reads p x c m b s =
    ap (λ r. r >>= λ value. or_long (beside b s) (number_of (setting (surroundings p x s) x.model c.node) value) >>= λ k. Ok (whole_of s.form.decimals k)) (value-reads p x c m b s)
    ∙ then-reads b (value_for p x s c m) _ _
    (λ value. let o = number_of (setting (surroundings p x s) x.model c.node) value in
    ap (λ r. r >>= λ k. Ok (whole_of s.form.decimals k)) (long-reads b s o) ∙ then-reads b (or_long s o) _ _ (λ k. refl))

loads : (p : Profile) (x : Acting) (resource : List ℕ) (b : Beside) (s : State) (binding : Bound)
    → loaded_text p x resource (beside b s) binding ≡ read_beside b (loaded_text p x resource s binding)
loads p x resource b s bound.unbound = refl
loads p x resource b s (bound.nodes m) = long-reads b s _
loads p x resource b s (bound.by_bind k) = long-reads b s _

says : (p : Profile) (x : Acting) → ReadsBeside (λ s.
    or_long s (inside (interface s) (quiet p s) x.rows x.element) >>= λ within.
    or_long s (text_in (interface s) (surroundings p x s) within (element_at (interface s) x.element)))
says p x b s =
    let o = inside (interface s) (quiet p s) x.rows x.element in
    ap (λ r. r >>= λ within. or_long (beside b s) (text_in (interface s) (surroundings p x s) within (element_at (interface s) x.element))) (long-reads b s o)
    ∙ then-reads b (or_long s o) _ _ (λ within. long-reads b s (text_in (interface s) (surroundings p x s) within (element_at (interface s) x.element)))

pub readings_go_beside : ReadingsGoBeside
readings_go_beside p = record {
  is_due = λ b s. refl;
  is_refresh_due = λ b s. refl;
  model_at = λ model b s. refl;
  readonly_in = λ n b s. refl;
  path_in = λ n b s. refl;
  instance_holding = λ n b s. refl;
  given = λ event b s. refl;
  around = λ event b s. refl;
  named_copy = λ n b s. refl;
  fired_at = λ name told target b s. refl;
  acting = λ e n b s. acts-in p e n b s (handler_rows (interface s) s.indexes e.event.target e.rows n);
  bound = λ x b s. long-reads b s _;
  value_for = value-reads p;
  truth_for = truth-reads p;
  text_for = λ x c m b s. long-reads b s _;
  whole_for = whole-reads p;
  loaded = λ x resource b s. loads p x resource b s (binding_of x s);
  message = says p;
}
