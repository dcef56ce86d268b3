-- What a rule of the grammar reads: it takes tokens from the front, and gives what they say and the tokens that are left, or the fault
-- at the first token that cannot stand where it does.
use Rattle.std.specs.Prelude.{◌≡◌, ◌⊎◌, ℕ, zero, suc, List, [], ◌∷◌, Result, Ok, Err}
use Rattle.xf_path.specs.declared.fault.ExprKind.{ExprKind}
use Rattle.xf_path.specs.declared.fault.ExprKind.TheVariants.{Syntax, Deep}
use Rattle.xf_path.specs.declared.fault.ParseFault.{ParseFault}
use Rattle.xf_path.specs.declared.fault.ParseFault.TheVariants as fault
use Rattle.xf_path.specs.declared.token.Kind.{Kind}
use Rattle.xf_path.specs.declared.token.Kind.TheVariants as k
use Rattle.xf_path.specs.Tokens.{Token}

-- ---- the next token

abbrev pub kind_of : List Token → Kind
kind_of [] = k.End
kind_of (t ∷ ts) = t.kind

abbrev pub place_of : List Token → ℕ
place_of [] = 0
place_of (t ∷ ts) = t.place

abbrev pub text_of : List Token → List ℕ
text_of [] = []
text_of (t ∷ ts) = t.text

-- what is left behind it; nothing stands behind the end
abbrev pub after_next : List Token → List Token
after_next [] = []
after_next (t ∷ []) = t ∷ []
after_next (t ∷ u ∷ ts) = u ∷ ts

-- ---- rules

abbrev pub Outcome : Type 0 → Type 0
Outcome A = Result (A × List Token) ParseFault

abbrev pub Rule : Type 0 → Type 0
Rule A = List Token → Outcome A

abbrev pub and_then : {A B : Type 0} → Outcome A → (A → Rule B) → Outcome B
and_then (Ok p) f = f p.0 p.1
and_then (Err e) f = Err e

infixl 10 ◌>>=◌
abbrev pub ◌>>=◌ : {A B : Type 0} → Rule A → (A → Rule B) → Rule B
p >>= f = λ ts. and_then (p ts) f

infixl 10 ◌>>◌
abbrev pub ◌>>◌ : {A B : Type 0} → Rule A → Rule B → Rule B
p >> q = p >>= (λ _. q)

-- reads nothing
abbrev pub pure : {A : Type 0} → A → Rule A
pure a = λ ts. Ok (a, ts)

-- the kind and the place of the next token, which stays
abbrev pub next_kind : Rule Kind
next_kind = λ ts. Ok (kind_of ts, ts)

abbrev pub next_place : Rule ℕ
next_place = λ ts. Ok (place_of ts, ts)

-- takes the next token, and gives its bytes
abbrev pub take_next : Rule (List ℕ)
take_next = λ ts. Ok (text_of ts, after_next ts)

abbrev pub next_text : Rule (List ℕ)
next_text = λ ts. Ok (text_of ts, ts)

-- goes on behind the next token
abbrev pub pass_next : Rule (Unit {0})
pass_next = λ ts. Ok (tt, after_next ts)

-- the next token cannot stand there
abbrev pub refuse : {A : Type 0} → ExprKind → Rule A
refuse why = λ ts. Err (fault.Expr (place_of ts) why)

-- a fault that stands at an earlier place
abbrev pub refuse_at : {A : Type 0} → ℕ → ExprKind → Rule A
refuse_at place why = λ ts. Err (fault.Expr place why)

-- ---- brackets

-- [ExprToken] `)` and `]`
abbrev pub close_by : Kind → Rule (Unit {0})
close_by k.Close = pass_next
close_by _ = refuse Syntax

abbrev pub close : Rule (Unit {0})
close = λ ts. close_by (kind_of ts) ts

abbrev pub close_square_by : Kind → Rule (Unit {0})
close_square_by k.CloseSquare = pass_next
close_square_by _ = refuse Syntax

abbrev pub close_square : Rule (Unit {0})
close_square = λ ts. close_square_by (kind_of ts) ts

-- a bracket opens, where so many more may stand one inside another
abbrev pub open_bracket : ℕ → Rule (Unit {0})
open_bracket zero = refuse Deep
open_bracket (suc depth) = pass_next

-- ---- what a function that reads by a rule ensures: what the rule gives, unless memory ran out

abbrev pub Reads : {A : Type 0} → Outcome A → Result A ParseFault → List Token → Type 0
Reads outcome (Ok a) new = outcome ≡ Ok (a, new)
Reads outcome (Err e) new = (e ≡ fault.Memory) ⊎ (outcome ≡ Err e)

-- the fault of this kind at this place, unless memory ran out
abbrev pub IsFault : ExprKind → ℕ → ParseFault → Type 0
IsFault why place e = (e ≡ fault.Memory) ⊎ (fault.Expr place why ≡ e)
