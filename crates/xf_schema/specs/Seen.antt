-- A decimal of the code, as the definitions have it.
use Rattle.xf_schema.specs.declared.decimals.Decimal as code
use Rattle.xf_schema.specs.Decimals.{Decimal}

abbrev pub seen_decimal : code.Decimal → Decimal
seen_decimal d = record { minus = d.minus; whole = d.whole.now; fraction = d.fraction.now }
