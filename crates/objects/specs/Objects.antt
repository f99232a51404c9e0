-- The object that members make, as a value of the kit's serde_json, and what the kit writes of it.
use Rattle.std.specs.Prelude.{List, [], ◌∷◌, map, ℕ}
use Rattle.serde_json.specs.Data as value
use Rattle.serde_json.specs.Data.{Data, Members}
use Rattle.serde_json.specs.View.{items_of}
use Rattle.serde_json.specs.Written.{compact_text}
use Rattle.objects.specs.Members.{Content, number, word, steps, Member}
use Rattle.objects.specs.declared.members.Member as code
use Rattle.objects.specs.declared.members.Member.TheVariants.{Number, Word, Steps}

-- what the code puts in an object
abbrev pub member : code.Member → Member
member (Number key n) = (key.now, number n)
member (Word key w) = (key.now, word w.now)
member (Steps key p) = (key.now, steps p)

-- the steps of a plan
abbrev pub step_numbers : List ℕ → List Data
step_numbers = map (λ b. value.number (value.unsigned b))

abbrev pub steps_array : List ℕ → Data
steps_array p = value.array (items_of (step_numbers p))

abbrev pub content_data : Content → Data
content_data (number n) = value.number (value.unsigned n)
content_data (word w) = value.string w
content_data (steps p) = steps_array p

abbrev pub put_member : Member → Members → Members
put_member m put = value.put m.0 (content_data m.1) put

-- the members are put into an object one after another: the kit has its keys in order
unfoldable pub put_each : List Member → Members → Members
put_each [] put = put
put_each (m ∷ ms) put = put_each ms (put_member m put)

abbrev pub object_of : List Member → Data
object_of ms = value.object (put_each ms value.no_members)

unfoldable pub written : List Member → List ℕ
written ms = compact_text (object_of ms)
