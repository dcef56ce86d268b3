-- The attributes that an element needs (XForms 1.1, sections 8 to 11; XML Events, section 3).
use Rattle.std.specs.Prelude.{ℕ, Bool, false, not, ◌&&◌, ◌||◌, ◌==◌, List}
use Rattle.std.specs.List.{list_any}
use Rattle.xf_form_vocabulary.specs.declared.attribute.TheConstants as at
use Rattle.xf_form_vocabulary.specs.declared.tag.Tag.{Tag}
use Rattle.xf_form_vocabulary.specs.declared.tag.Tag.TheVariants as tag
use Rattle.xf_form_vocabulary.specs.Attributes.{Shown}

abbrev pub has : List Shown → ℕ → Bool
has known code = list_any (λ k. k.0 == code) known

abbrev pub has_either : List Shown → ℕ → ℕ → Bool
has_either known first second = has known first || has known second

abbrev pub lacks_by_tag : Tag → List Shown → Bool
lacks_by_tag tag.Submission known = not (has_either known at.RESOURCE at.ACTION) || not (has known at.METHOD)
lacks_by_tag tag.Repeat known = not (has_either known at.NODESET at.BIND)
lacks_by_tag tag.Itemset known = not (has_either known at.NODESET at.BIND)
lacks_by_tag tag.Delete known = not (has_either known at.NODESET at.BIND)
lacks_by_tag tag.Input known = not (has_either known at.REF at.BIND)
lacks_by_tag tag.Secret known = not (has_either known at.REF at.BIND)
lacks_by_tag tag.Textarea known = not (has_either known at.REF at.BIND)
lacks_by_tag tag.Select known = not (has_either known at.REF at.BIND)
lacks_by_tag tag.SelectOne known = not (has_either known at.REF at.BIND)
lacks_by_tag tag.SetValue known = not (has_either known at.REF at.BIND)
lacks_by_tag tag.Output known = not (has_either known at.REF at.BIND) && not (has known at.VALUE)
lacks_by_tag tag.Load known = not (has_either known at.REF at.BIND) && not (has known at.RESOURCE)
lacks_by_tag tag.SetIndex known = not (has known at.REPEAT) || not (has known at.INDEX)
lacks_by_tag tag.Toggle known = not (has known at.CASE)
lacks_by_tag tag.SetFocus known = not (has known at.CONTROL)
lacks_by_tag tag.Dispatch known = not (has known at.NAME) || not (has_either known at.TARGET_ID at.TARGET)
lacks_by_tag t known = false

-- a handler needs the name of its event
abbrev pub lacks : Tag → Bool → List Shown → Bool
lacks t is_handler known = (is_handler && not (has known at.EVENT)) || lacks_by_tag t known
