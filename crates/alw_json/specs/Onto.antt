-- The tokens of a text when a value stands behind them.
use Rattle.std.specs.Prelude.{List, [], ◌∷◌, ◌++◌}
use Rattle.json.specs.Token as token
use Rattle.json.specs.Token.{Token}
use Rattle.serde_json.specs.Data.{Data, null, boolean, number, string, array, object, Items, no_items, item, Members, no_members, member}
use Rattle.serde_json.specs.Written.{number_text}

abbrev mutual
  pub value_onto : Data → List Token → List Token
  value_onto null ts = ts ++ token.null ∷ []
  value_onto (boolean b) ts = ts ++ token.boolean b ∷ []
  value_onto (number n) ts = ts ++ token.number (number_text n) ∷ []
  value_onto (string s) ts = ts ++ token.string s ∷ []
  value_onto (array ds) ts = items_onto ds (ts ++ token.begin_array ∷ [])
  value_onto (object ms) ts = members_onto ms (ts ++ token.begin_object ∷ [])

  -- with the closing bracket
  pub items_onto : Items → List Token → List Token
  items_onto no_items ts = ts ++ token.end_array ∷ []
  items_onto (item d ds) ts = items_onto ds (value_onto d ts)

  pub members_onto : Members → List Token → List Token
  members_onto no_members ts = ts ++ token.end_object ∷ []
  members_onto (member k d ms) ts = members_onto ms (value_onto d (ts ++ token.key k ∷ []))
