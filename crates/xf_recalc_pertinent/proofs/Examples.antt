-- Worked cases: nodes 1, 2 and 3, the others below 1; what entries read, look at and give, and what a change concerns by itself.
use Rattle.std.proofs.Common.{◌≡◌, ℕ, true, false, List, [], ◌∷◌, refl}
use Rattle.xf_def_model.specs.declared.property.Property.{Property}
use Rattle.xf_def_model.specs.declared.property.Property.TheVariants.{Calculate, Relevant}
use Rattle.xf_def_model.specs.Applied.{Entry}
use Rattle.xf_def_model.specs.Pertinent.{Changes}
use Rattle.xf_binds.specs.declared.web.Asks.{Asks}
use Rattle.xf_recalc_pertinent.specs.Places.{gives_at, reads_at}
use Rattle.xf_recalc_pertinent.specs.Begun.{is_begun_by}
use Rattle.xf_recalc_pertinent.specs.Spread.{gives_before}

abbrev entry : Property → ℕ → ℕ → Entry
entry property node position = record { node = node; property = property; bind = 0; position = position; size = 2 }

abbrev asks : List ℕ → List ℕ → Asks
asks reads looks = record { reads = reads; looks = looks; above = 1 ∷ [] }

-- a calculate on 3 that reads 2, and a relevant on 2 that reads 3 and looks at 1
abbrev entries : List Entry
entries = entry Calculate 3 1 ∷ entry Relevant 2 1 ∷ []

abbrev web : List Asks
web = asks (2 ∷ []) [] ∷ asks (3 ∷ []) (1 ∷ []) ∷ []

a_calculate_gives_its_node : gives_at entries web 0 3 ≡ true
a_calculate_gives_its_node = refl

a_calculate_gives_what_stands_above : gives_at entries web 0 1 ≡ true
a_calculate_gives_what_stands_above = refl

a_calculate_gives_no_other : gives_at entries web 0 2 ≡ false
a_calculate_gives_no_other = refl

a_relevant_gives_nothing : gives_at entries web 1 2 ≡ false
a_relevant_gives_nothing = refl

the_second_reads : reads_at entries web 1 3 ≡ true
the_second_reads = refl

none_reads_past_the_last : reads_at entries web 2 3 ≡ false
none_reads_past_the_last = refl

what_is_not_marked_gives_nothing : gives_before entries web (false ∷ true ∷ []) 2 3 ≡ false
what_is_not_marked_gives_nothing = refl

what_is_marked_gives : gives_before entries web (true ∷ false ∷ []) 2 3 ≡ true
what_is_marked_gives = refl

abbrev changes : List ℕ → List ℕ → List Entry → Changes
changes texts lists stood = record { texts = texts; lists = lists; stood = stood }

a_new_entry_is_begun : is_begun_by [] (changes [] [] []) (entry Relevant 2 1) (asks [] []) ≡ true
a_new_entry_is_begun = refl

one_that_stood_is_not : is_begun_by [] (changes [] [] (entry Relevant 2 1 ∷ [])) (entry Relevant 2 1) (asks [] []) ≡ false
one_that_stood_is_not = refl

at_another_place_it_is_not_where_that_is_not_asked : is_begun_by [] (changes [] [] (entry Relevant 2 2 ∷ [])) (entry Relevant 2 1) (asks [] []) ≡ false
at_another_place_it_is_not_where_that_is_not_asked = refl

a_calculate_of_another_text_is_begun : is_begun_by [] (changes (3 ∷ []) [] entries) (entry Calculate 3 1) (asks [] []) ≡ true
a_calculate_of_another_text_is_begun = refl

a_relevant_of_another_text_is_not : is_begun_by [] (changes (2 ∷ []) [] entries) (entry Relevant 2 1) (asks [] []) ≡ false
a_relevant_of_another_text_is_not = refl

a_list_that_is_looked_at_counts : is_begun_by [] (changes [] (1 ∷ []) entries) (entry Relevant 2 1) (asks [] (1 ∷ [])) ≡ true
a_list_that_is_looked_at_counts = refl
