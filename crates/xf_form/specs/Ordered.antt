-- What is loaded is numbered in document order.
use Rattle.std.specs.Prelude.{◌≡◌, ℕ, List, Ok}
use Rattle.xf_def_syntax.specs.Ordered.{IsOrdered}
use Rattle.xf_form.specs.declared.loaded.Loaded.{Loaded}
use Rattle.xf_form.specs.Loading.{loaded_in}

abbrev pub LoadedOrdered : Type 0
LoadedOrdered = (bytes : List ℕ) (loaded : Loaded) → loaded_in bytes ≡ Ok loaded → IsOrdered loaded.form
