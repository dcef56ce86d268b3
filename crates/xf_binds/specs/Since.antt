-- What is kept of a model by what it was at the last commit and what came since (XForms 1.1, sections 4.3.1 to 4.3.3).
use Rattle.std.specs.Prelude.{ℕ, Bool, true, false, List, take, Option, unwrap_or, if◌then◌else◌}
use Rattle.xf_binds.specs.declared.kept.Since.{Since}
use Rattle.xf_binds.specs.declared.kept.Since.TheVariants.{Nothing, Told, Built, ToldBuilt, BuiltTold, Past}
use Rattle.xf_binds.specs.Held.{Held, entries_in, held_by}
use Rattle.xf_binds.specs.Kept.{Entered, Kept, Was, stood_of, told_of, valued_in}

-- the present entries, and what they ask
abbrev pub present_in : Entered → Since → Entered
present_in kept Nothing = kept
present_in kept (Told truths) = kept
present_in kept (Built now) = now
present_in kept (ToldBuilt truths now) = now
present_in kept (BuiltTold now) = now
present_in kept (Past now stood) = now

abbrev pub stood_since : List Held → Option (List Held) → Since → List Held
stood_since kept old Nothing = stood_of kept old
stood_since kept old (Told truths) = held_by (entries_in kept) truths
stood_since kept old (Built now) = stood_of kept old
stood_since kept old (ToldBuilt truths now) = held_by (entries_in kept) truths
stood_since kept old (BuiltTold now) = now.held
stood_since kept old (Past now stood) = stood

abbrev pub is_told : Since → Bool
is_told Nothing = false
is_told (Built now) = false
is_told since = true

abbrev pub built_more : Entered → Since → Since
built_more now Nothing = Built now
built_more now (Told truths) = ToldBuilt truths now
built_more now (Built old) = Built now
built_more now (ToldBuilt truths old) = ToldBuilt truths now
built_more now (BuiltTold old) = Past now old.held
built_more now (Past old stood) = Past now stood

abbrev pub told_more : List (Option Bool) → Since → Since
told_more truths Nothing = Told truths
told_more truths (Told old) = Told truths
told_more truths (Built now) = BuiltTold (told_of truths now)
told_more truths (ToldBuilt old now) = BuiltTold (told_of truths now)
told_more truths (BuiltTold now) = BuiltTold (told_of truths now)
told_more truths (Past now stood) = BuiltTold (told_of truths now)

abbrev pub marks_in : Bool → List ℕ → List ℕ → List ℕ
marks_in told kept late = if told then late else kept

abbrev pub was_of : Entered → Option (List Held) → List ℕ → List ℕ → ℕ → List ℕ → ℕ → Was
was_of present stood invalid texts texts_kept lists lists_kept = record {
  entries = entries_in present.held;
  asks = present.asks;
  stood = valued_in (stood_of present.held stood);
  invalid = invalid;
  texts = take texts_kept texts;
  lists = take lists_kept lists;
}

abbrev pub kept_of : Entered → Option (List Held) → List ℕ → Option (List ℕ) → List ℕ → List ℕ → List ℕ → List ℕ → Since → Was → Kept
kept_of present stood invalid checked texts lists late_texts late_lists since before = record {
  entries = entries_in (present_in present since).held;
  asks = (present_in present since).asks;
  stood = valued_in (stood_since present.held stood since);
  invalid = unwrap_or checked invalid;
  texts = marks_in (is_told since) texts late_texts;
  lists = marks_in (is_told since) lists late_lists;
  before = before;
}
