use Rattle.std.proofs.Common.{◌∙◌, sym, string_bytes, arith}
use Rattle.alw_config.proofs.UnderWay.{near, unknown, again, missing, disallowed, goes_on, ends, place_within, first_missing, first_is, no_word}
use Rattle.alw_config.proofs.options.chosen.Goals as goal

pub returns-in_default-row_of : goal.returns-in_default-row_of
returns-in_default-row_of c =
    let way = rw c.in-Some.ensures.cases.0 at c.pairs.invariant.under_way in
    let none = rw (c.open_options.ensures.options, c.as_bytes.ensures.value, c.as_str.ensures.value) at c.row_of.ensures in
    unknown _ _ _ _ _ _ way (sym none ∙ c.in_default-row_of.is)

pub offset_bounds-chosen-meaning : goal.offset_bounds-chosen-meaning
offset_bounds-chosen-meaning c = omega (arith, place_within _ _ _ c.open_options.ensures.places (sym (rw c.open_options.ensures.options at c.in-Some-row_of.ensures)))

pub bounds-chosen-meaning : goal.bounds-chosen-meaning
bounds-chosen-meaning c = place_within _ _ _ c.open_options.ensures.places (sym (rw c.open_options.ensures.options at c.in-Some-row_of.ensures))

pub returns-then-is_some : goal.returns-then-is_some
returns-then-is_some c =
    let way = rw c.in-Some.ensures.cases.0 at c.pairs.invariant.under_way in
    let known = rw (c.open_options.ensures.options, c.as_bytes.ensures.value, c.as_str.ensures.value) at c.in-Some-row_of.ensures in
    again _ _ _ _ _ _ way c.in-Some-row_of.meaning (sym known) (place_within _ _ _ c.open_options.ensures.places (sym known))
    (sym c.is_some.ensures ∙ c.if-is_some.true)

pub overflow_add-value_at : goal.overflow_add-value_at
overflow_add-value_at c = omega (arith, near _ _ _ _ _ c.pairs.invariant.under_way)

pub returns-in_default-split_first : goal.returns-in_default-split_first
returns-in_default-split_first c =
    let way = rw c.in-Some.ensures.cases.0 at c.pairs.invariant.under_way in
    let known = rw (c.open_options.ensures.options, c.as_bytes.ensures.value, c.as_str.ensures.value) at c.in-Some-row_of.ensures in
    missing _ _ _ _ _ _ way c.in-Some-row_of.meaning (sym known) (place_within _ _ _ c.open_options.ensures.places (sym known))
    (sym c.is_some.ensures ∙ c.if-is_some.false)
    (first_missing string_bytes c.in-Some.behind.now c.in_default-split_first.ensures.cases)

pub returns-in_default-value : goal.returns-in_default-value
returns-in_default-value c =
    let way = rw c.in-Some.ensures.cases.0 at c.pairs.invariant.under_way in
    let known = rw (c.open_options.ensures.options, c.as_bytes.ensures.value, c.as_str.ensures.value) at c.in-Some-row_of.ensures in
    let none = rw (c.as_bytes-in-Some.ensures.value, c.as_str-in-Some.ensures.value) at c.value.ensures in
    disallowed _ _ _ _ _ _ way c.in-Some-row_of.meaning (sym known) (place_within _ _ _ c.open_options.ensures.places (sym known))
    (sym c.is_some.ensures ∙ c.if-is_some.false)
    (string_bytes c.in-Some-split_first.word.now) (first_is string_bytes c.in-Some.behind.now _ _ c.in-Some-split_first.ensures.cases.0)
    (sym none ∙ c.in_default-value.is)

pub offset_bounds-chosen-meaning-in-Some : goal.offset_bounds-chosen-meaning-in-Some
offset_bounds-chosen-meaning-in-Some c = omega (arith, place_within _ _ _ c.open_options.ensures.places (sym (rw c.open_options.ensures.options at c.in-Some-row_of.ensures)))

pub bounds-chosen-meaning-in-Some : goal.bounds-chosen-meaning-in-Some
bounds-chosen-meaning-in-Some c = place_within _ _ _ c.open_options.ensures.places (sym (rw c.open_options.ensures.options at c.in-Some-row_of.ensures))

pub overflow_add-at : goal.overflow_add-at
overflow_add-at c = omega (arith, near _ _ _ _ _ c.pairs.invariant.under_way)

pub pairs-preserved : goal.pairs-preserved
pairs-preserved c =
    let way = rw (c.in-Some.ensures.cases.0, c.in-Some-split_first.ensures.cases.0) at c.pairs.invariant.under_way in
    let known = rw (c.open_options.ensures.options, c.as_bytes.ensures.value, c.as_str.ensures.value) at c.in-Some-row_of.ensures in
    let value = rw (c.as_bytes-in-Some.ensures.value, c.as_str-in-Some.ensures.value) at c.in-Some-value.ensures in
    record {
      under_way = goes_on _ _ _ _ _ _ _ way c.in-Some-row_of.meaning (sym known) (place_within _ _ _ c.open_options.ensures.places (sym known))
          (sym c.is_some.ensures ∙ c.if-is_some.false) c.in-Some-value.value (sym value);
    }

pub returns : goal.returns
returns c = ends _ _ _ _ (rw (no_word string_bytes c.pairs.rest.now c.in_default.ensures.cases) at c.pairs.invariant.under_way)
