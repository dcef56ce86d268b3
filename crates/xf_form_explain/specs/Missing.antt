-- Which attribute an element lacks, of those that it needs (XForms 1.1, sections 8 to 11; XML Events, section 3).
use Rattle.std.specs.Prelude.{Bool, not, ◌&&◌, ◌||◌, if◌then◌else◌, List, Option, Some, None}
use Rattle.xf_form_vocabulary.specs.declared.attribute.TheConstants as at
use Rattle.xf_form_vocabulary.specs.declared.tag.Tag.{Tag}
use Rattle.xf_form_vocabulary.specs.declared.tag.Tag.TheVariants as tag
use Rattle.xf_form_vocabulary.specs.Attributes.{Shown}
use Rattle.xf_form_vocabulary.specs.Needs.{has, has_either}
use Rattle.xf_form_explain.specs.declared.detail.Need.{Need}
use Rattle.xf_form_explain.specs.declared.detail.Need.TheVariants as need

abbrev pub unless : Bool → Need → Option Need
unless holds n = if holds then None else Some n

abbrev pub missing_of_submission : List Shown → Option Need
missing_of_submission known = if not (has_either known at.RESOURCE at.ACTION) then Some need.Resource else unless (has known at.METHOD) need.Method

abbrev pub missing_of_index : List Shown → Option Need
missing_of_index known = if not (has known at.REPEAT) then Some need.Repeat else unless (has known at.INDEX) need.Index

abbrev pub missing_of_dispatch : List Shown → Option Need
missing_of_dispatch known = if not (has known at.NAME) then Some need.Name else unless (has_either known at.TARGET_ID at.TARGET) need.Target

abbrev pub missing_by_tag : Tag → List Shown → Option Need
missing_by_tag tag.Submission known = missing_of_submission known
missing_by_tag tag.Repeat known = unless (has_either known at.NODESET at.BIND) need.Nodes
missing_by_tag tag.Itemset known = unless (has_either known at.NODESET at.BIND) need.Nodes
missing_by_tag tag.Delete known = unless (has_either known at.NODESET at.BIND) need.Nodes
missing_by_tag tag.Input known = unless (has_either known at.REF at.BIND) need.Node
missing_by_tag tag.Secret known = unless (has_either known at.REF at.BIND) need.Node
missing_by_tag tag.Textarea known = unless (has_either known at.REF at.BIND) need.Node
missing_by_tag tag.Select known = unless (has_either known at.REF at.BIND) need.Node
missing_by_tag tag.SelectOne known = unless (has_either known at.REF at.BIND) need.Node
missing_by_tag tag.SetValue known = unless (has_either known at.REF at.BIND) need.Node
missing_by_tag tag.Output known = unless (has_either known at.REF at.BIND || has known at.VALUE) need.Value
missing_by_tag tag.Load known = unless (has_either known at.REF at.BIND || has known at.RESOURCE) need.Source
missing_by_tag tag.SetIndex known = missing_of_index known
missing_by_tag tag.Toggle known = unless (has known at.CASE) need.Case
missing_by_tag tag.SetFocus known = unless (has known at.CONTROL) need.Control
missing_by_tag tag.Dispatch known = missing_of_dispatch known
missing_by_tag t known = None

-- the first that is missing
abbrev pub missing : Tag → Bool → List Shown → Option Need
missing t is_handler known = if is_handler && not (has known at.EVENT) then Some need.Event else missing_by_tag t known
