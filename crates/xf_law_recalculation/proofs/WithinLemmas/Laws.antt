-- What an expression gives and asks over whole trees, as the statements have it.
use Rattle.std.proofs.Common.{◌≡◌, ℕ, Bool, true, ◌&&◌, List, [], ◌∷◌, Option, Some, None, refl, ap, ◌∙◌, subst}
use Rattle.std.specs.List.{list_all}
use Rattle.xf_def_forest.specs.Visit.{Visit}
use Rattle.xf_def_xpath.specs.declared.value.Value.{Value}
use Rattle.xf_def_xpath.specs.Given.{Document}
use Rattle.xf_def_xpath.specs.Setting.{Setting}
use Rattle.xf_def_xpath.specs.Reads.{trace}
use Rattle.xf_def_xpath.proofs.ForestVisits.{Each}
use Rattle.xf_def_xpath.proofs.TraceKeeps.{meaning-of_trace}
use Rattle.xf_law_recalculation.specs.Within.Within.{Whole, AreWhole, Within, over_part, are_in, all_in, GivesWithin, GivenWithin, AskedWithin}
use Rattle.xf_law_recalculation.proofs.WithinLemmas.Within.{In}
use Rattle.xf_law_recalculation.proofs.WithinLemmas.Told.{Told}
use Rattle.xf_law_recalculation.proofs.WithinLemmas.Seen.{Sees, Inside}
use Rattle.xf_law_recalculation.proofs.WithinLemmas.Asks.{trace-keeps}
use Rattle.xf_law_recalculation.proofs.WithinLemmas.Reading.{reads-same, reads-inside, looks-same, looks-inside}

each-whole : (p : ℕ → Bool) (all : List Visit) → AreWhole p all → Each (Whole p) all
each-whole p [] h = tt
each-whole p (x ∷ xs) h = (h.0, each-whole p xs h.1)

sees : (p : ℕ → Bool) (s : Setting) (strings : ℕ → List ℕ) (documents : List Document) → Within p s strings documents → Sees p s strings documents
sees p s strings documents h = record {
  trees = each-whole p s.all h.trees;
  strings_too = h.strings_too;
  documents_too = h.documents_too;
  inside = h.inside;
  current = h.current;
  quiet = h.quiet;
}

in-list : (p : ℕ → Bool) (ns : List ℕ) → In p ns → are_in p ns ≡ true
in-list p [] h = refl
in-list p (n ∷ ns) h = ap (λ b. b && list_all p ns) h.0 ∙ in-list p ns h.1

in-value : (p : ℕ → Bool) (m : Option Value) → Told (Inside p) m → all_in p m ≡ true
in-value p None h = refl
in-value p (Some v) h = in-list p _ h

pub given_within : GivenWithin
given_within p e s strings documents c h here =
    let a = (trace-keeps p e).meaning s strings documents (sees p s strings documents h) c here in
    subst (λ m. GivesWithin p (m (over_part p s strings documents) c) (m s c)) (meaning-of_trace e) (record { same = a.same; nodes = in-value p ((trace e).meaning s c) a.told })

pub asked_within : AskedWithin
asked_within p e s strings documents c h here =
    let see = sees p s strings documents h in
    let keeps = trace-keeps p e in
    record {
      reads = record { same = reads-same p (trace e) keeps s strings documents see c here; nodes = in-list p _ (reads-inside p (trace e) keeps s strings documents see c here) };
      looks = record { same = looks-same p (trace e) keeps s strings documents see c here; nodes = in-list p _ (looks-inside p (trace e) keeps s strings documents see c here) };
    }
