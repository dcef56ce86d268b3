-- The tokens of an expression (XPath 1.0, section 3.7): each is the longest that can be read at its place, and white space may stand
-- between them. What a name is goes by what stands behind it; whether it, or a `*`, is an operator goes by where it is read.
use Rattle.std.specs.Prelude.{ℕ, zero, suc, ◌+◌, ◌-◌, ◌||◌, ◌==◌, if◌then◌else◌, List, [], ◌∷◌, length, take, Option, Some, None, encode_utf8_all}
use Rattle.std.specs.Char.{len_utf8}
use Rattle.std.specs.Str.{chars}
use Rattle.xf_num.specs.Written.{is_space, is_digit, after_digits}
use Rattle.xf_name.specs.Part.{begins_part, continues_part}
use Rattle.xf_path.specs.declared.token.Kind.{Kind}
use Rattle.xf_path.specs.declared.token.Kind.TheVariants as k

pub record Token : Type 0 where
  pub kind : Kind
  -- how many bytes stand before it
  pub place : ℕ
  -- its bytes
  pub text : List ℕ

-- what follows white space
abbrev pub after_space : List ℕ → List ℕ
after_space [] = []
after_space (c ∷ cs) = if is_space c then after_space cs else c ∷ cs

-- what follows a point and digits, where these come next
abbrev pub after_point : List ℕ → List ℕ
after_point [] = []
after_point (c ∷ cs) = if c == 46 then after_digits cs else c ∷ cs

-- what follows the rest of a name's part
abbrev pub after_part : List ℕ → List ℕ
after_part [] = []
after_part (c ∷ cs) = if continues_part c then after_part cs else c ∷ cs

-- ---- names

-- behind a name and a colon
abbrev pub kind_at_colon : List ℕ → Kind
kind_at_colon [] = k.Name
kind_at_colon (c ∷ cs) = if c == 58 then k.AxisName else k.Name

abbrev pub kind_before : List ℕ → Kind
kind_before [] = k.Name
kind_before (c ∷ cs) = if c == 40 then k.Called else (if c == 58 then kind_at_colon cs else k.Name)

-- a name is that of a function or node type before `(`, and that of an axis before `::`; white space may stand between
unfoldable pub kind_of_name : List ℕ → Kind
kind_of_name cs = kind_before (after_space cs)

-- behind a name and a colon: a second part, or `*`; the whole is what follows the name
abbrev pub name_on : List ℕ → List ℕ → Kind × List ℕ
name_on whole [] = (kind_of_name whole, whole)
name_on whole (c ∷ cs) =
    if begins_part c then (kind_of_name (after_part cs), after_part cs) else (if c == 42 then (k.SpaceStar, cs) else (kind_of_name whole, whole))

-- [37] NameTest: behind its first part a name may go on with a colon and a second part; a colon and `*` make it a test of a namespace
abbrev pub name_from : List ℕ → Kind × List ℕ
name_from [] = (kind_of_name [], [])
name_from (c ∷ cs) = if c == 58 then name_on (c ∷ cs) cs else (kind_of_name (c ∷ cs), c ∷ cs)

-- ---- literals

-- what follows the next quote of this kind
abbrev pub after_quote : ℕ → List ℕ → Option (List ℕ)
after_quote quote [] = None
after_quote quote (c ∷ cs) = if c == quote then Some cs else after_quote quote cs

abbrev pub literal_by : List ℕ → Option (List ℕ) → Kind × List ℕ
literal_by cs None = (k.Other, cs)
literal_by cs (Some after) = (k.Literal, after)

-- [29] Literal: behind a first quote, up to the next one of its kind
abbrev pub literal_from : ℕ → List ℕ → Kind × List ℕ
literal_from quote cs = literal_by cs (after_quote quote cs)

-- ---- signs

-- behind a first point: [12] `..`, [31] digits of a number, or nothing
abbrev pub dot_from : List ℕ → Kind × List ℕ
dot_from [] = (k.Dot, [])
dot_from (c ∷ cs) =
    if c == 46 then (k.DotDot, cs) else (if is_digit c then (k.Number, after_digits cs) else (k.Dot, c ∷ cs))

-- the tokens of one character
abbrev pub sign_of : ℕ → Kind
sign_of c =
    if c == 40 then k.Open
    else (if c == 41 then k.Close
    else (if c == 91 then k.OpenSquare
    else (if c == 93 then k.CloseSquare
    else (if c == 42 then k.Star
    else (if c == 43 then k.Plus
    else (if c == 45 then k.Minus
    else (if c == 44 then k.Comma
    else (if c == 47 then k.Slash
    else (if c == 60 then k.Less
    else (if c == 61 then k.Equal
    else (if c == 62 then k.Greater
    else (if c == 64 then k.At
    else (if c == 124 then k.Bar else k.Other)))))))))))))

-- the tokens of two characters: a sign before `=`, and a sign that stands twice
abbrev pub with_equal : ℕ → Option Kind
with_equal c = if c == 33 then Some k.NotEqual else (if c == 60 then Some k.LessOrEqual else (if c == 62 then Some k.GreaterOrEqual else None))

abbrev pub doubled : ℕ → Option Kind
doubled c = if c == 47 then Some k.SlashSlash else (if c == 58 then Some k.ColonColon else None)

abbrev pub pair_of : ℕ → ℕ → Option Kind
pair_of c d = if d == 61 then with_equal c else (if d == c then doubled c else None)

abbrev pub sign_by : ℕ → ℕ → List ℕ → Option Kind → Kind × List ℕ
sign_by c d cs None = (sign_of c, d ∷ cs)
sign_by c d cs (Some kind) = (kind, cs)

abbrev pub sign_from : ℕ → List ℕ → Kind × List ℕ
sign_from c [] = (sign_of c, [])
sign_from c (d ∷ cs) = sign_by c d cs (pair_of c d)

-- ---- all tokens

-- [28] ExprToken: the kind of the token that begins with a character, and the characters that follow it
abbrev pub token_from : ℕ → List ℕ → Kind × List ℕ
token_from c cs =
    if is_digit c then (k.Number, after_point (after_digits cs))
    else (if c == 46 then dot_from cs
    else (if begins_part c then name_from (after_part cs)
    else (if (c == 34) || (c == 39) then literal_from c cs else sign_from c cs)))

-- the tokens of characters that stand behind so many bytes, where the first few belong to the token before them
abbrev pub tokens_from : ℕ → ℕ → List ℕ → List Token
tokens_from skipped place [] = record { kind = k.End; place = place; text = [] } ∷ []
tokens_from (suc skipped) place (c ∷ cs) = tokens_from skipped (place + len_utf8 c) cs
tokens_from zero place (c ∷ cs) =
    if is_space c then tokens_from 0 (place + len_utf8 c) cs
    else (let found = token_from c cs in
    let more = length cs - length found.1 in
    record { kind = found.0; place = place; text = encode_utf8_all (c ∷ take more cs) } ∷ tokens_from more (place + len_utf8 c) cs)

-- the tokens of a text, of which the last is its end
abbrev pub tokens_of : List ℕ → List Token
tokens_of text = tokens_from 0 0 (chars text)
