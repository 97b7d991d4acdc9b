-- The definitions of lower crates, handed on to the proofs of this crate.
pub use Rattle.alw_image.specs.Images.{IsImage, IsStart, body_of, context_count, is_always, line_count, node_count, start_in, started_at, zero_line}
pub use Rattle.alw_image.specs.Parameters.{AreParameters, Parameters, set_counts}
pub use Rattle.alw_image.specs.declared.parts.Parts.{Parts}
pub use Rattle.alw_model.specs.Caches.{Cache, Copy, Requests, Transaction, Transactions, copy_at, ended_by, evicted, give_up, granted_copy, grants, invalidate, react, replaced, set_of}
pub use Rattle.alw_model.specs.Contexts.{Slot, all_halted, give_hold, is_held, no_slot, ran, regs_start, running, slot_at, slot_start, status_start, wake, woken}
pub use Rattle.alw_model.specs.Counts.{count_holds, counts_of, is_data, listed_words, memory_words, uses_hold, words_of}
pub use Rattle.alw_model.specs.Ends.{IsEnd}
unfoldable pub use Rattle.alw_model.specs.Flat.{are_ready, flat_after, flat_prints}
pub use Rattle.alw_model.specs.Flat.{AreReady, Context, Flat, context_at, context_start, flat_start, flat_turn, flat_turn_by, line_at, print_of, stored_in, turned, turns_after, turns_print}
pub use Rattle.alw_model.specs.Flat.{turns_ready}
pub use Rattle.alw_model.specs.FullMap.{Home, Sends, act, give_back, give_back_from, home_start, row, sole}
pub use Rattle.alw_model.specs.Headline.{IsCoherentRun}
pub use Rattle.alw_model.specs.LimitLess.{Directory, directory_start, full_map_of, handle, hardware_act, hardware_of, is_in_progress, is_trapped, or_always, trapped}
pub use Rattle.alw_model.specs.LineInvariant.{LineInvariant, owes, reads, software_fits, writes}
pub use Rattle.alw_model.specs.Lines.{LineNode, LineState, absent, current_value, downs, entry_of, line_node, line_of, packets_at, sent_by, ups}
unfoldable pub use Rattle.alw_model.specs.Machine.{state}
pub use Rattle.alw_model.specs.Machine.{AreLegal, IsLegal, IsNext, MachineState, after, after_step, any_trapped, end_of, goes_on, has_halted, is_enabled, is_settled, is_within_limit, link_at}
pub use Rattle.alw_model.specs.Machine.{link_place, links_sent, links_taken, machine_start, main_events, no_node, node_at, stamp_at, step, stepped_by, taken_by}
pub use Rattle.alw_model.specs.MachineInvariant.{MachineInvariant, caches_rightly, holds_rightly, left_to_do, links_rightly, mode_in, most_to_do, next_mode, opens_rightly, packed_rightly}
pub use Rattle.alw_model.specs.MachineInvariant.{points_rightly, sizes_fit, slot_fits, transaction_stands, trapped_rightly, waits_rightly}
pub use Rattle.alw_model.specs.Messages.{home_node, is_at_home, is_fit, to_caches, to_homes}
pub use Rattle.alw_model.specs.NodeStates.{NodeState, home_at, may, may_deliver, may_reach, may_reach_cache, memory_of, node_start, place_of, stamp_of, with_home}
pub use Rattle.alw_model.specs.NodeSteps.{Stepped, access, at_cache, at_home, clocked, deliver, deliver_by, event_at, handle_by, handle_front, instr, instr_by, take_turn}
pub use Rattle.alw_model.specs.ProcessorSteps.{opened, slots_after, status_after, written}
unfoldable pub use Rattle.alw_model.specs.Runs.{moments}
pub use Rattle.alw_model.specs.Runs.{Moment, acted_by, acted_messages, acted_on, flat_context, flat_status, flat_view, full_map_after, moment_of, moments_from, number_of, prints_of, turn_in}
pub use Rattle.alw_model.specs.Runs.{turns_in, turns_of}
pub use Rattle.alw_model.specs.declared.ends.Ended.{Ended}
pub use Rattle.alw_model.specs.declared.steps.Did.{Did}
pub use Rattle.alw_msg.specs.Contents.{ACKC, BUSY, Content, ForCache, ForMemory, INV, RDATA, REPM, RREQ, ToCache, ToMemory, UPDATE, WDATA, WREQ, brings_line, content, is_rdata, is_reply, is_repm}
pub use Rattle.alw_msg.specs.Contents.{is_to_memory, reply_in, request_in}
pub use Rattle.alw_msg.specs.Events.{is_evict, node_of}
pub use Rattle.alw_msg.specs.Lists.{behind, count_of, front, is_nonempty}
pub use Rattle.alw_msg.specs.Statuses.{has_trapped, is_halted, is_ready, waited, waits_on}
pub use Rattle.alw_msg.specs.declared.contexts.Status.{Status}
pub use Rattle.alw_msg.specs.declared.contexts.Status.TheVariants.{Halted, Ready, Trapped, Waiting}
pub use Rattle.alw_msg.specs.declared.events.Entry.{Entry}
pub use Rattle.alw_msg.specs.declared.events.Event.{Event}
pub use Rattle.alw_msg.specs.declared.events.Event.TheVariants.{Deliver, Evict, Handle, Instr}
pub use Rattle.alw_msg.specs.declared.messages.Msg.{Msg}
unfoldable pub use Rattle.alw_num.specs.Maps.{value_at}
pub use Rattle.alw_num.specs.Maps.{Map, ascends_from, empty_map, found, kept_if, passes, passes_if_some, with_value, without_value}
pub use Rattle.alw_num.specs.NodeSets.{Nodes, count_nodes, has_node, members, no_nodes}
pub use Rattle.alw_num.specs.Weights.{digit, sum_below, weigh}
pub use Rattle.alw_num.specs.declared.addresses.Line.{Line}
pub use Rattle.alw_num.specs.declared.addresses.LineNo.{LineNo}
pub use Rattle.alw_num.specs.declared.addresses.NodeNo.{NodeNo}
pub use Rattle.alw_num.specs.declared.states.Meta.TheVariants.{Normal}
pub use Rattle.alw_num.specs.declared.states.Mode.{Mode}
pub use Rattle.alw_num.specs.declared.states.Mode.TheVariants.{Read, Write}
pub use Rattle.alw_num.specs.declared.states.State.{State}
pub use Rattle.alw_num.specs.declared.states.State.TheVariants.{RO, RT, RW, WT}
pub use Rattle.law_entry.specs.Entries.{EntryIsSound}
pub use Rattle.law_line.specs.Census.{census, copies_of, is_read, is_write, transactions_of}
pub use Rattle.law_line.specs.Combinations.{AreListed, IsListed}
pub use Rattle.law_line.specs.Exchanges.{acted_in}
pub use Rattle.law_line.specs.Protocol.{Acts, Comes, Leaves, LineEvent, Opens, Stores, last_stored, start, value_after}
pub use Rattle.law_line.specs.Sound.{CensusFits, Sound, role}
pub use Rattle.law_lines.specs.LineEvents.{about, events_at, in_access, in_cache, in_delivery, in_home, in_instr, in_leaving, in_miss, in_need, in_packet, in_queue, in_taken, line_events}
pub use Rattle.law_lines.specs.Links.{GoBelow, msgs_to}
pub use Rattle.law_lines.specs.Standing.{IsCache, IsPacket, IsStanding, NodeStands}
pub use Rattle.sparc_table.specs.Turns.{need_of, turn_of}
pub use Rattle.sparc_table.specs.declared.outcomes.Need.{Need}
pub use Rattle.sparc_table.specs.declared.outcomes.Outcome.{Outcome}
pub use Rattle.sparc_table.specs.declared.registers.Regs.{Regs}
