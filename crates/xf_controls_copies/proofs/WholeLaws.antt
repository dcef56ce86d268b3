-- The copies of a form are those that come by handing down from its first element.
use Rattle.std.proofs.Common.{◌≡◌, ℕ, ◌+◌, ◌≤◌, true, ◌&&◌, List, [], length, option_map, ap, ◌∙◌, arith}
use Rattle.std.specs.Prelude.{filter, reverse}
use Rattle.std.specs.List.{list_all}
use Rattle.xf_def_xpath.specs.Setting.{each}
use Rattle.xf_def_ui.specs.declared.marks.Marks.{Marks}
use Rattle.xf_def_ui.specs.Interface.{Interface}
use Rattle.xf_def_ui.specs.Elements.{ancestors, element_at, elements_on, is_container}
use Rattle.xf_def_ui.specs.Around.{Around}
use Rattle.xf_def_ui.specs.Context.{entered}
use Rattle.xf_def_ui.specs.Cases.{if_case}
use Rattle.xf_def_ui.specs.Copies.{is_open}
use Rattle.xf_controls.proofs.PathLaws.{root_inside}
use Rattle.xf_controls.proofs.WholeLaws.{nothing-above}
use Rattle.xf_controls_copies.specs.Handed.{Handed, first_handed}
use Rattle.xf_controls_copies.specs.Made.{copies_at}
use Rattle.xf_controls_copies.specs.Parents.{are_parents}
use Rattle.xf_controls_copies.specs.Walk.{copies_from}
use Rattle.xf_controls_copies.proofs.DownLaws.{handed-down}
use Rattle.xf_controls_copies.proofs.HandedLaws.{Stands}
use Rattle.xf_controls_copies.proofs.MadeLaws.{made-at}
use Rattle.xf_controls_copies.proofs.ParentLaws.{first-alone, parents-in}

first-stands : (f : Interface) (a : Around) (marks : ℕ → Marks) (cases : List ℕ) → ancestors f 0 ≡ [] → Stands f a marks cases first_handed 0
first-stands f a marks cases none =
    record {
      given = λ more. ap (λ ns. entered f a (root_inside more) (elements_on f (reverse ns))) none;
      enabled = λ more. ap (λ ns. option_map (λ all. list_all (λ b. b) all && list_all (λ m. if_case f cases m (element_at f m).sort) ns) (each (is_open f a marks more) (filter (λ m. is_container (element_at f m).sort) ns))) none;
    }

pub copies-are : (f : Interface) (a : Around) (marks : ℕ → Marks) (cases : List ℕ) (most : ℕ) (h : Handed) → are_parents f ≡ true → most ≡ length f.elements → h ≡ first_handed
    → copies_from most f a marks cases h 0 ≡ copies_at most f a marks cases [] 0
copies-are f a marks cases most h parents whole first =
    let none = nothing-above f (first-alone f parents) in
    let short : length (ancestors f 0) + most ≤ length f.elements = let zero_long : length (ancestors f 0) ≡ 0 = ap length none in omega (arith, zero_long, whole) in
    ap (λ d. copies_from most f a marks cases d 0) first
    ∙ handed-down f a marks cases (parents-in f parents) most 0 first_handed (first-stands f a marks cases none) short ∙ made-at f a marks cases most [] 0
