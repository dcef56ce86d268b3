-- The tokens that a `Tokens` has left.
use Rattle.std.specs.Prelude.{◌≤◌, List, [], ◌∷◌, length}
use Rattle.xf_base.specs.Limits.{expression_limit}
use Rattle.xf_path.specs.declared.token.Kind.{Kind}
use Rattle.xf_path.specs.declared.token.Kind.TheVariants as k
use Rattle.xf_path.specs.declared.tokens.Tokens.TheInside.{Inside}
use Rattle.xf_path.specs.Tokens.{Token}
use Rattle.xf_path.specs.Left.{tokens_at}

-- nothing stands behind the end
abbrev pub behind : Kind → List Token → List Token
behind k.End later = []
behind _ later = later

abbrev pub left_of : Inside → List Token
left_of t = record { kind = t.kind; place = t.place; text = t.text.now } ∷ behind t.kind (tokens_at t.end t.rest.now)

-- the text behind the next token ends at the end, which is within the limit
pub record IsWithin (t : Inside) : Type 0 where
  pub rest : length t.rest.now ≤ t.end
  pub limit : t.end ≤ expression_limit
