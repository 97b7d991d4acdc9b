-- The message at a place, or none behind the last.
use Rattle.std.proofs.Common.{◌≡◌, true, Some, slice_get, sym, subst, ap, ◌∙◌, arith}
use Rattle.alw_cells.specs.Logs.{Reading, sent_of}
use Rattle.alw_cells.specs.Records.{given_in, HasGiven, HasRecord, HasSends, entry_in, count_in, sends_at, sends_in, behind_sends, sent_msg}
use Rattle.alw_cells.proofs.Places.{has_fewer, has_place, at_place, none_behind}
use Rattle.alw_cells.proofs.cursors.Cursor.sent.Goals as goal

pub returns-then-i-from-clause-sent : goal.returns-then-i-from-clause-sent
returns-then-i-from-clause-sent c =
    let number = c.self.inside.node.0 in
    let bytes = c.self.inside.given.now in
    let has : c.self.inside.has_given ≡ true = c.if-not-self.false in
    let here : slice_get (sent_of c.args.self.now.given) c.args.i ≡ slice_get (sends_in number (entry_in number bytes).stamp (count_in bytes) (sends_at bytes)) c.args.i =
    sym (ap (λ (r : Reading). slice_get (sent_of r.given) c.args.i) c.self.view_is) ∙ ap (λ b. slice_get (sent_of (given_in number b bytes)) c.args.i) has in
    sym (here ∙ none_behind number (entry_in number bytes).stamp (count_in bytes) c.args.i (sends_at bytes) (omega (arith, c.from.ensures, c.count_at.ensures, c.if-i-from.true)))

pub skip-rest-requires : goal.skip-rest-requires
skip-rest-requires c =
    let bytes = c.self.inside.given.now in
    let given : c.self.inside.has_given ≡ true = c.if-not-self.false in
    let has : HasRecord bytes = subst (λ b. HasGiven b bytes) given c.self.invariant.0 in
    subst (HasSends c.args.i) (sym c.sends_of.ensures) (has_fewer (count_in bytes) c.args.i (sends_at bytes) (omega (arith, c.from.ensures, c.count_at.ensures, c.if-i-from.false)) has.sends)

pub sent_at-to-requires : goal.sent_at-to-requires
sent_at-to-requires c =
    let bytes = c.self.inside.given.now in
    let given : c.self.inside.has_given ≡ true = c.if-not-self.false in
    let has : HasRecord bytes = subst (λ b. HasGiven b bytes) given c.self.invariant.0 in
    let place = has_place (count_in bytes) c.args.i (sends_at bytes) (omega (arith, c.from.ensures, c.count_at.ensures, c.if-i-from.false)) has.sends in
    rw (c.skip-rest.ensures, c.sends_of.ensures) place

pub returns-clause-sent : goal.returns-clause-sent
returns-clause-sent c =
    let number = c.self.inside.node.0 in
    let bytes = c.self.inside.given.now in
    let has : c.self.inside.has_given ≡ true = c.if-not-self.false in
    let here : slice_get (sent_of c.args.self.now.given) c.args.i ≡ slice_get (sends_in number (entry_in number bytes).stamp (count_in bytes) (sends_at bytes)) c.args.i =
    sym (ap (λ (r : Reading). slice_get (sent_of r.given) c.args.i) c.self.view_is) ∙ ap (λ b. slice_get (sent_of (given_in number b bytes)) c.args.i) has in
    ap Some (c.sent_at-to.ensures ∙ (λ x. sent_msg number (c.entry_at-stamp.ensures x).stamp ((c.skip-rest.ensures ∙ ap (behind_sends c.args.i) c.sends_of.ensures) x)))
    ∙ sym (here ∙ at_place number (entry_in number bytes).stamp (count_in bytes) c.args.i (sends_at bytes) (omega (arith, c.from.ensures, c.count_at.ensures, c.if-i-from.false)))
