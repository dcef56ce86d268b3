-- States at rest are fixed by their data, also where only the contents of nodes are known.
use Rattle.std.proofs.Common.{◌≡◌, ℕ, ◌==◌, Bool, true, false, ◌&&◌, List, [], ◌∷◌, map, length, refl, sym, ap, ◌∙◌, arith}
use Rattle.std.specs.List.{list_all}
use Rattle.std.proofs.lemmas.Bool.Decides.{nat_tests}
use Rattle.xf_def_ui.specs.Index.{Index, index_of, rows_now}
use Rattle.xf_def_machine.specs.Profile.{Profile}
use Rattle.xf_def_machine.specs.Program.{Program}
use Rattle.xf_def_machine.specs.State.{State}
use Rattle.xf_def_machine.specs.Surround.{interface, quiet}
use Rattle.xf_def_machine.specs.AtRest.{is_placed_in, are_placed}
use Rattle.xf_def_machine.specs.Same.{renumbered_index}
use Rattle.xf_law_sessions.specs.Step.Fixed.{RowlessIsFixed, FixedLaws}
use Rattle.xf_law_sessions.proofs.StepLemmas.Found.{found-by}
use Rattle.xf_law_sessions.proofs.StepLemmas.RestFixed.{rest_is_fixed}
use Rattle.xf_law_sessions.proofs.StepLemmas.RestsGo.{rests_go}

and-first : (a b : Bool) → (a && b) ≡ true → a ≡ true
and-first true b h = refl
and-first false b h = cc

none-long : (is : List Index) (n : ℕ) (rest : Bool) → n ≡ 0 → ((length is == n) && rest) ≡ true → is ≡ []
none-long [] n rest l q = refl
none-long (i ∷ is) n rest l q = let same : (length (i ∷ is) == n) ≡ true = and-first (length (i ∷ is) == n) rest q in let bad : ⊥ = grind (arith, nat_tests, l, same) in absurd bad

none-placed : (p : Profile) (s : State) → (interface s).repeats ≡ [] → are_placed p s ≡ true → s.indexes ≡ []
none-placed p s e h =
    none-long s.indexes (length (interface s).repeats) (list_all (λ r. is_placed_in (rows_now (interface s) (quiet p s) s.indexes r) (index_of (interface s) s.indexes r)) (interface s).repeats) (ap length e) h

rowless : RowlessIsFixed
rowless p s t form e a b d h q =
    let g = found-by s.forest t.forest h.trees q.trees a b d.contents in
    let one : s.indexes ≡ [] = none-placed p s e h.placed in
    let two : t.indexes ≡ [] = none-placed p t (ap (λ (x : Program). x.interface.repeats) (sym d.form) ∙ e) q.placed in
    rest_is_fixed p g.by s t form (record {
      renumbers = g.renumbers;
      keeps_texts = g.keeps_texts;
      form = d.form;
      nodes = g.nodes;
      indexes = ap (map (renumbered_index g.by)) one ∙ sym two;
      cases = d.cases;
      accepted = d.accepted;
    }) h q

pub fixed_laws : FixedLaws
fixed_laws = record { with_indexes = rest_is_fixed; rowless = rowless; events = rests_go }
