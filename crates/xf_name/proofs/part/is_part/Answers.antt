use Rattle.std.proofs.Common.{◌≡◌, ◌∙◌, ◌&&◌, ap, sym, rules, tests, refl, true, length, nat_le, slice_get}
use Rattle.std.specs.List.{list_all}
use Rattle.std.specs.Str.{chars}
use Rattle.std.proofs.lemmas.Iterator.{YieldsList-from_chars}
use Rattle.std.proofs.lemmas.Iterator.Search.{all_from_yields_List}
use Rattle.xf_name.specs.Part.{continues_part, is_part_of}
use Rattle.xf_name.proofs.PartLemmas.{first_char}
use Rattle.xf_name.proofs.part.is_part.Goals as goal

pub returns-then-begins_part : goal.returns-then-begins_part
returns-then-begins_part c =
    let text = c.args.text.now in
    let tail = c.next.new.self.rest.now in
    let whole : text ≡ c.chars-chars.result.rest.now = search rules in
    let left = first_char text tail c.in-Some.first c.utf8.text (whole ∙ c.in-Some.ensures.steps.0) (c.in-Some.ensures.steps.2 ∙ ap (λ t. slice_get (chars t) 0) (sym whole)) in
    let rest = all_from_yields_List continues_part _ _ c.all.result c.all.ensures.ran (YieldsList-from_chars tail left.0 refl) (λ x b q k. search (rules, tests)) in
    let short : nat_le (length text) 255 ≡ true = search (rules, tests) in
    rest ∙ ap (λ b. b && list_all continues_part (chars tail)) c.if-begins_part.ensures ∙ ap is_part_of (sym left.1) ∙ ap (λ b. b && is_part_of (chars text)) (sym short)
