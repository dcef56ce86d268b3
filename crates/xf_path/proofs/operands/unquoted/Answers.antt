use Rattle.std.proofs.Common.{◌≡◌, ℕ, List, ◌∷◌, sym, ap, ◌∙◌, rules, arith}
use Rattle.std.specs.Prelude.{encode_utf8_all}
use Rattle.std.specs.Str.{chars, IsUtf8}
use Rattle.std.proofs.lemmas.Str.{encodes-chars}
use Rattle.xf_path.specs.Primary.{before_quote, between, unquoted}
use Rattle.xf_path.proofs.operands.unquoted.Goals as goal

double : (text behind : List ℕ) (q : ℕ) → q ≡ 34 → chars text ≡ q ∷ chars behind → encode_utf8_all (chars behind) ≡ behind → before_quote 34 behind ≡ unquoted text
unfolding unquoted
double text behind q h e same = sym (ap between (e ∙ ap (λ x. x ∷ chars behind) h) ∙ ap (before_quote 34) same)

single : (text behind : List ℕ) (q : ℕ) → q ≡ 39 → chars text ≡ q ∷ chars behind → encode_utf8_all (chars behind) ≡ behind → before_quote 39 behind ≡ unquoted text
unfolding unquoted
single text behind q h e same = sym (ap between (e ∙ ap (λ x. x ∷ chars behind) h) ∙ ap (before_quote 39) same)

pub returns-then-quote-eq34 : goal.returns-then-quote-eq34
returns-then-quote-eq34 c =
    let utf8 : IsUtf8 c.in-Some.behind.now = search rules in
    let is : c.in-Some.quote ≡ 34 = omega arith in
    c.before_quote.ensures ∙ double c.args.text.now c.in-Some.behind.now c.in-Some.quote is c.in-Some.ensures (encodes-chars c.in-Some.behind.now utf8)

pub returns-then-quote-eq39 : goal.returns-then-quote-eq39
returns-then-quote-eq39 c =
    let utf8 : IsUtf8 c.in-Some.behind.now = search rules in
    let is : c.in-Some.quote ≡ 39 = omega arith in
    c.before_quote-then-quote-eq39.ensures ∙ single c.args.text.now c.in-Some.behind.now c.in-Some.quote is c.in-Some.ensures (encodes-chars c.in-Some.behind.now utf8)
