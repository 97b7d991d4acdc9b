-- A value behind tokens is those tokens and then its own, and a value alone prints as its text.
use Rattle.std.proofs.Common.{◌≡◌, List, [], ◌∷◌, ◌++◌, refl, ap, ◌∙◌, append_assoc}
use Rattle.json.specs.Token as token
use Rattle.json.specs.Token.{Token}
use Rattle.json.specs.Print.{print}
use Rattle.json.specs.Tree.{json_tokens, items_tokens, members_tokens}
use Rattle.serde_json.specs.Data.{Data, null, boolean, number, string, array, object, Items, no_items, item, Members, no_members, member}
use Rattle.serde_json.specs.Written.{outline, items_outline, members_outline, compact_text}
use Rattle.serde_json.proofs.Texts.{print-outline}
use Rattle.alw_json.specs.Onto.{value_onto, items_onto, members_onto}

mutual
  value_behind : (d : Data) (ts : List Token) → value_onto d ts ≡ ts ++ json_tokens (outline d)
  value_behind null ts = refl
  value_behind (boolean b) ts = refl
  value_behind (number n) ts = refl
  value_behind (string s) ts = refl
  value_behind (array ds) ts = items_behind ds _ ∙ append_assoc ts (token.begin_array ∷ []) _
  value_behind (object ms) ts = members_behind ms _ ∙ append_assoc ts (token.begin_object ∷ []) _

  items_behind : (ds : Items) (ts : List Token) → items_onto ds ts ≡ ts ++ items_tokens (items_outline ds)
  items_behind no_items ts = refl
  items_behind (item d ds) ts =
      let rest = items_tokens (items_outline ds) in
      items_behind ds _ ∙ ap (λ us. us ++ rest) (value_behind d ts) ∙ append_assoc ts (json_tokens (outline d)) rest

  members_behind : (ms : Members) (ts : List Token) → members_onto ms ts ≡ ts ++ members_tokens (members_outline ms)
  members_behind no_members ts = refl
  members_behind (member k d ms) ts =
      let named = ts ++ token.key k ∷ [] in
      let rest = members_tokens (members_outline ms) in
      members_behind ms _ ∙ ap (λ us. us ++ rest) (value_behind d named) ∙ append_assoc named (json_tokens (outline d)) rest ∙ append_assoc ts (token.key k ∷ []) _

pub print_onto : (d : Data) → print (value_onto d []) ≡ compact_text d
print_onto d = ap print (value_behind d []) ∙ print-outline d
