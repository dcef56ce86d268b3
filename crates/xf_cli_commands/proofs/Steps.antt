-- Whoever answers lines step by step as another would: so the answers to all lines are the other's.
use Rattle.std.proofs.Common.{◌≡◌, ◌⊎◌, ◌∙◌, ℕ, Bool, true, false, List, [], ◌∷◌, ◌++◌, length, take, drop, nat_lt, refl, sym, subst, inl, inr}
use Rattle.xf_base.specs.Limits.{line_limit, stream_limit}
use Rattle.xf_io.specs.Lines.{lines_of, ended_lines}
use Rattle.xf_cli_stream.specs.declared.answering.AnswerFault.{AnswerFault}
use Rattle.xf_cli_stream.specs.declared.answering.AnswerFault.TheVariants as fault
use Rattle.xf_cli_stream.specs.declared.lines.Ending.{Ending}
use Rattle.xf_cli_stream.specs.declared.lines.Ending.TheVariants.{Done, ReadFault, SinkFault, TooMuch, DiskFault, Memory}
use Rattle.xf_cli_stream.specs.Answers.{Replies, Leaves, too_long_reply, takes_by, Takes, TakesAll, IsBegun, AsFarAs, IsLeft, IsLastLine, InWork, StopsAt, answered_lines, Answers}

module _ {A B : Type 0} (replies : Replies A) (leaves : Leaves A) (says : Replies B) (lacks : Leaves B) (at fails : A → B → Type 0)
    (step : (a : A) (b : B) (line text : List ℕ) (next : A) → at a b → replies a line text next → (c : B) × at next c × says b line text c)
    (wants : (a : A) (b : B) (line : List ℕ) (next : A) → at a b → leaves fault.Memory a line next → (c : B) × at next c × lacks fault.Memory b line c)
    (stops : (a : A) (b : B) (line : List ℕ) (next : A) → at a b → leaves fault.Disk a line next → (c : B) × fails next c × lacks fault.Disk b line c) where
  one-by : (long : Bool) (a : A) (b : B) (line text : List ℕ) (next : A) → at a b → takes_by long ((text ≡ too_long_reply) × (next ≡ a)) (replies a line text next)
      → (c : B) × at next c × takes_by long ((text ≡ too_long_reply) × (c ≡ b)) (says b line text c)
  one-by true a b line text next h k = (b, subst (λ x. at x b) (sym k.1) h, (k.0, refl))
  one-by false a b line text next h k = step a b line text next h k

  one : (a : A) (b : B) (line text : List ℕ) (next : A) → at a b → Takes replies a line text next → (c : B) × at next c × Takes says b line text c
  one a b line text next h k = one-by (nat_lt line_limit (length line)) a b line text next h k

  abbrev All : B → A → List (List ℕ) → List ℕ → Type 0
  All b last ls written = (c : B) × at last c × TakesAll says b ls written c

  all : (a : A) (b : B) (ls : List (List ℕ)) (written : List ℕ) (last : A) → at a b → TakesAll replies a ls written last → All b last ls written
  all a b [] written last h k = (b, subst (λ x. at x b) (sym k.1) h, (k.0, refl))
  all a b (line ∷ ls) written last h k =
      let first = one a b line k.0 k.2 h k.3 in
      let rest = all k.2 first.0 ls k.1 last first.1 k.4 in
      (rest.0, rest.1, (k.0, k.1, first.0, first.2, rest.2, k.5))

  begun : (a : A) (b : B) (ls : List (List ℕ)) (part : List ℕ) (last : A) → at a b → IsBegun replies a ls part last → (c : B) × at last c × IsBegun says b ls part c
  begun a b [] part last h k = (b, subst (λ x. at x b) (sym k.1) h, (k.0, refl))
  begun a b (line ∷ ls) part last h k = let first = one a b line k.0 last h k.1 in (first.0, first.1, (k.0, first.2, k.2))

  far : (a : A) (b : B) (ls : List (List ℕ)) (part written : List ℕ) (last : A) → at a b → AsFarAs replies a ls part written last → (c : B) × at last c × AsFarAs says b ls part written c
  far a b ls part written last h k =
      let some = all a b (take k.0 ls) k.1 k.2 h k.3 in
      let more = begun k.2 some.0 (drop k.0 ls) part last some.1 k.4 in
      (more.0, more.1, (k.0, k.1, some.0, some.2, more.2, k.5))

  left : (now : A) (b : B) (line : List ℕ) (last : A) → at now b → IsLeft leaves now line last → (c : B) × at last c × IsLeft lacks b line c
  left now b line last h (inl same) = (b, subst (λ x. at x b) (sym same) h, inl refl)
  left now b line last h (inr k) = let w = wants now b line last h k in (w.0, w.1, inr w.2)

  in-memory : (taken rest : List ℕ) (before : List (List ℕ)) (now : A) (b : B) (last : A) → at now b → InWork leaves fault.Memory taken rest before now last
      → (c : B) × at last c × InWork lacks fault.Memory taken rest before b c
  in-memory taken rest before now b last h (inl k) = (b, subst (λ x. at x b) (sym k.1) h, inl (k.0, refl))
  in-memory taken rest before now b last h (inr k) = let l = left now b k.0 last h k.2 in (l.0, l.1, inr (k.0, k.1, l.2))

  in-disk : (taken rest : List ℕ) (before : List (List ℕ)) (now : A) (b : B) (last : A) → at now b → InWork leaves fault.Disk taken rest before now last
      → (c : B) × fails last c × InWork lacks fault.Disk taken rest before b c
  in-disk taken rest before now b last h k = let s = stops now b k.0 last h k.2 in (s.0, s.1, (k.0, k.1, s.2))

  -- how the two stand to each other then
  abbrev pub Ends : Ending → A → B → Type 0
  Ends Done a b = at a b
  Ends ReadFault a b = at a b
  Ends SinkFault a b = at a b
  Ends TooMuch a b = at a b
  Ends DiskFault a b = fails a b
  Ends Memory a b = at a b

  pub answers : (ending : Ending) (a : A) (b : B) (events left written : List ℕ) (last : A) → at a b → Answers replies leaves ending a events left written last
      → (c : B) × Ends ending last c × Answers says lacks ending b events left written c
  answers Done a b events left written last h k = let r = all a b (lines_of events) written last h k.2 in (r.0, r.1, (k.0, k.1, r.2))
  answers ReadFault a b events left written last h k = let r = all a b (ended_lines k.0) written last h k.3 in (r.0, r.1, (k.0, k.1, k.2, r.2))
  answers SinkFault a b events left written last h k = let r = far a b (answered_lines events) k.0 written last h k.1 in (r.0, r.1, (k.0, r.2))
  answers TooMuch a b events left written last h k = let r = all a b (ended_lines (take stream_limit events)) written last h k.1 in (r.0, r.1, (k.0, r.2))
  answers DiskFault a b events left written last h k =
      let r = all a b k.5 written k.6 h k.7 in
      let w = in-disk k.0 (k.1 ++ left) k.5 k.6 r.0 last r.1 k.8 in
      (w.0, w.1, (k.0, k.1, k.2, k.3, k.4, k.5, r.0, r.2, w.2))
  answers Memory a b events left written last h k =
      let r = all a b k.5 written k.6 h k.7 in
      let w = in-memory k.0 (k.1 ++ left) k.5 k.6 r.0 last r.1 k.8 in
      (w.0, w.1, (k.0, k.1, k.2, k.3, k.4, k.5, r.0, r.2, w.2))
