-- A follower of a stream has what was held at its end, and what is written of a stream are records.
use Rattle.std.proofs.Common.{◌≡◌, sym, subst, ◌∙◌, ap, ℕ, ◌+◌, ◌<◌, ◌≤◌, ◌^◌, ◌==◌, Bool, true, false, cond, List, [], ◌∷◌, length, flat_map, append-nil, Option, None, Some, arith}
use Rattle.rdf_term.specs.{declared.triple.Triple.Triple, Order.triple_cmp}
use Rattle.sorted_sets.specs.Rising.{Each, In}
use Rattle.wq_io.specs.{Streams.after_known, Lines.line_feed, Lines.lines, Lines.onto_first_line}
use Rattle.delivery.specs.declared.Delivery.{Delivery}
use Rattle.replay_model.specs.{Acceptance.version_in_force, Play.Played, Play.Replies, Play.played, ReplayState.ReplayState, Union.union}
use Rattle.fetched_pages.specs.Meaning.{meaning}
use Rattle.replica.specs.{declared.record.PatchRecord.PatchRecord, Laws.IsGreatest, Record.record_lines, Replica.after}
use Rattle.graph_routes.specs.declared.routes.Route.{Route}
use Rattle.replica.proofs.Producers.{one_greatest}
use Rattle.written_laws.specs.Laws.{AreOfStream, IsChain}
use Rattle.patch_stream.specs.Stream.{Step, changes, stream, stream_text}
use Rattle.written_laws.proofs.{Bounds.few_enough, Bounds.few_so_far, Bounds.numbers_of, Chains.chain_of_play, Chains.chain_to_end}
use Rattle.written_laws.proofs.{Readable.HasFewTriples, Readable.all_of_stream, Readable.can_be_read, Sides.sides_so_far, Sides.sides_to_end, Streamed.after_stream, Streamed.all_there}
use Rattle.arguments.specs.Options.{FollowChoices, closes, follow_max_bytes_of, max_bytes_of}
use Rattle.following.specs.{Following.Ending as Followed, Following.FollowMoment, Following.replica_text, Reading.AreRecords}
use Rattle.following.proofs.{Complete.found_records, Refusals.one_list}
use Rattle.session_laws.specs.Complete.{steps_made}
use Rattle.run_model.specs.{Course.course_ended, Course.version_at, Headline.Ending}
use Rattle.run_model.specs.Moment.{Beginning, IsFirst, Moment, Run, horizon_at, start_of}
use Rattle.run_model.specs.{Reading.AreDeliveries, Remapping.held_triples}
use Rattle.run_model.proofs.FromNothing.{state_played, steps_end_first, steps_first, version_first}
use Rattle.run_model.proofs.{Reading.as_many, Reading.at_known, Versions.all_held_by}

-- the triples of all that is held where a play leads
abbrev last_of : Option (List Route) → Bool → List Delivery → Beginning → Replies → List Triple
last_of routes closed ds start replies = union triple_cmp (meaning (version_at ds start)) ((course_ended routes closed ds start).state replies).played.records

-- the triples of all that is held where the play of a first run leads
last_first : (closed : Bool) (routes : Option (List Route)) (ds : List Delivery) (start : Beginning) → IsFirst start → (replies : Replies) →
    union triple_cmp (meaning (version_in_force ds)) (played (horizon_at start) closed replies ds).records ≡ last_of routes closed ds start replies
last_first closed routes ds start first replies =
    ap (λ (p : Played). union triple_cmp (meaning (version_in_force ds)) p.records) (sym (state_played routes closed ds start first replies))
    ∙ ap (λ v. union triple_cmp (meaning v) ((course_ended routes closed ds start).state replies).played.records) (sym (version_first start first replies ds))

-- each step of such a play begins where the one before it ended
chain_ended : (routes : Option (List Route)) (closed : Bool) (ds : List Delivery) (start : Beginning) → IsFirst start → (replies : Replies) → IsChain [] ((course_ended routes closed ds start).steps replies) (last_of routes closed ds start replies)
chain_ended routes true ds start first replies =
    subst (IsChain [] ((course_ended routes true ds start).steps replies)) (last_first true routes ds start first replies)
    (subst (λ steps. IsChain [] steps (union triple_cmp (meaning (version_in_force ds)) (played (horizon_at start) true replies ds).records)) (sym (steps_end_first start first replies ds routes)) (chain_to_end (horizon_at start) replies ds))
chain_ended routes false ds start first replies =
    subst (IsChain [] ((course_ended routes false ds start).steps replies)) (last_first false routes ds start first replies)
    (subst (λ steps. IsChain [] steps (union triple_cmp (meaning (version_in_force ds)) (played (horizon_at start) false replies ds).records)) (sym (steps_first start first replies ds)) (chain_of_play (horizon_at start) replies ds))

-- fewer deliveries than numbers of 32 bits make fewer steps than numbers of 64 bits
few_ended : (routes : Option (List Route)) (closed : Bool) (ds : List Delivery) (start : Beginning) → IsFirst start → (replies : Replies) → length ds < 2 ^ 32 → length ((course_ended routes closed ds start).steps replies) < 2 ^ 64
few_ended routes true ds start first replies small = subst (λ (steps : List Step). length steps < 2 ^ 64) (sym (steps_end_first start first replies ds routes)) (few_enough (horizon_at start) replies ds small)
few_ended routes false ds start first replies small = subst (λ (steps : List Step). length steps < 2 ^ 64) (sym (steps_first start first replies ds)) (few_so_far (horizon_at start) replies ds small)

-- and few triples are stored before and after each of them
sides_ended : (routes : Option (List Route)) (closed : Bool) (ds : List Delivery) (start : Beginning) → IsFirst start → (replies : Replies) → length ds < 2 ^ 32 → Each HasFewTriples ((course_ended routes closed ds start).steps replies)
sides_ended routes true ds start first replies small = subst (Each HasFewTriples) (sym (steps_end_first start first replies ds routes)) (sides_to_end (horizon_at start) replies ds small)
sides_ended routes false ds start first replies small = subst (Each HasFewTriples) (sym (steps_first start first replies ds)) (sides_so_far (horizon_at start) replies ds small)

module _ (run : Run) (start end : Moment) (first : IsFirst (start_of run start)) (ended : Ending run start end) where
  abbrev deliveries : List Delivery
  deliveries = ended.replayed.deliveries

  chain : IsChain [] (steps_made run start end ended) (last_of run.environment.routes (closes run.choices) deliveries (start_of run start) ended.replayed.replay.played.replies)
  chain = chain_ended run.environment.routes (closes run.choices) deliveries (start_of run start) first ended.replayed.replay.played.replies

  -- the union of the play is what is held
  union_held : last_of run.environment.routes (closes run.choices) deliveries (start_of run start) ended.replayed.replay.played.replies ≡ held_triples end.stage.mapped end.stage.world.played.records
  union_held =
      ap (λ (w : ReplayState). union triple_cmp (meaning (version_at deliveries (start_of run start))) w.played.records) (sym ended.replayed.replay.played.is)
      ∙ sym (all_held_by (version_at deliveries (start_of run start)) end.stage.mapped end.stage.world.played.records ended.replayed.replay.played.mapped)

  module _ (choices : FollowChoices) (before now : FollowMoment) (followed : Followed choices before now) (bytes : List ℕ) (items : List PatchRecord) (known : before.input.left ≡ Some bytes)
      (are : AreRecords (follow_max_bytes_of choices) bytes items None) (of_stream : AreOfStream (steps_made run start end ended) items) where
    same_items : followed.items ≡ items
    same_items = (one_list _ followed.items items None None (found_records choices before now bytes known followed.items followed.followed.are).are are.are).0

    applied_all : followed.applied ≡ changes (steps_made run start end ended)
    applied_all = one_greatest items followed.applied (changes (steps_made run start end ended)) (subst (λ l. IsGreatest l followed.applied) same_items followed.followed.greatest)
        (all_there _ (steps_made run start end ended) items chain of_stream)

    has_union : after followed.items followed.applied ≡ held_triples end.stage.mapped end.stage.world.played.records
    has_union =
        (λ i. after (same_items i) (applied_all i))
        ∙ after_stream _ (steps_made run start end ended) items chain of_stream
        ∙ union_held

    pub follower_has : now.output.bytes ≡ after_known before.output.bytes (replica_text choices.export (changes (steps_made run start end ended)) (held_triples end.stage.mapped end.stage.world.played.records))
    follower_has = followed.printed ∙ (λ i. after_known before.output.bytes (replica_text choices.export (applied_all i) (has_union i)))

-- ---- what was written

few_onto : (b : ℕ) (ls : List (List ℕ)) (n : ℕ) → length ls ≤ n → length (onto_first_line b ls) ≤ n + 1
few_onto b [] n few = omega arith
few_onto b (l ∷ ls) n few = omega (arith, few)

-- bytes have no more lines than bytes
lines_few : (bytes : List ℕ) → length (lines bytes) ≤ length bytes
lines_few [] = omega arith
lines_few (b ∷ bs) = by (b == line_feed) (lines_few bs)
  where
    by : (feed : Bool) → length (lines bs) ≤ length bs → length (cond feed ([] ∷ lines bs) (onto_first_line b (lines bs))) ≤ length (b ∷ bs)
    by true few = omega (arith, few)
    by false few = omega (arith, few_onto b (lines bs) (length bs) few)

module _ (run : Run) (start end : Moment) (first : IsFirst (start_of run start)) (ended : Ending run start end) (bytes : List ℕ) (known : start.input.left ≡ Some bytes) (bounded : max_bytes_of run.choices ≤ 4294967295) where
  -- there are no more deliveries than bytes
  few_deliveries : length ended.replayed.deliveries < 2 ^ 32
  few_deliveries =
      let are : AreDeliveries (max_bytes_of run.choices) bytes ended.replayed.deliveries = at_known start.input.left bytes (λ b. AreDeliveries (max_bytes_of run.choices) b ended.replayed.deliveries) known ended.replayed.are in
      omega (arith, as_many (lines bytes) ended.replayed.deliveries are.delivered, lines_few bytes, are.within, bounded)

  pub numbers_in_run : (item : PatchRecord) → In item (stream (steps_made run start end ended)) → item.number < 2 ^ 64
  numbers_in_run item there = numbers_of (steps_made run start end ended) item (few_ended run.environment.routes (closes run.choices) ended.replayed.deliveries (start_of run start) first ended.replayed.replay.played.replies few_deliveries) there

  pub written_records : (limit : ℕ) → length (stream_text (steps_made run start end ended)) ≤ limit →
      AreRecords limit (stream_text (steps_made run start end ended)) (stream (steps_made run start end ended)) None × AreOfStream (steps_made run start end ended) (stream (steps_made run start end ended))
  written_records limit within =
      let replies : Replies = ended.replayed.replay.played.replies in
      let read = can_be_read _ (steps_made run start end ended) (chain_ended run.environment.routes (closes run.choices) ended.replayed.deliveries (start_of run start) first replies)
      (sides_ended run.environment.routes (closes run.choices) ended.replayed.deliveries (start_of run start) first replies few_deliveries)
      (few_ended run.environment.routes (closes run.choices) ended.replayed.deliveries (start_of run start) first replies few_deliveries) in (
        record { within = within; are = record { are = read.are_lines ∙ sym (append-nil (flat_map record_lines (stream (steps_made run start end ended)))); sound = read.sound; unfinished = tt } },
        all_of_stream (steps_made run start end ended),
      )
