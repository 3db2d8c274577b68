-- When a follower stops, and for which cause.
use Rattle.std.proofs.Common.{◌≡◌, ◌⊎◌, inl, inr, ⊎_elim, refl, sym, subst, ◌∙◌, ap, ℕ, ◌+◌, ◌<◌, ◌≤◌, true, is_some, List, [], ◌∷◌, ◌++◌, length, Option, None, Some, IfSome, IsSome, append-nil, arith, true≢false}
use Rattle.std.specs.Option.{option_map}
use Rattle.std.proofs.lemmas.Bool.{cases_lt}
use Rattle.wq_io.specs.{Streams.Rose, Streams.before_known, Lines.input_lines, Lines.lines}
use Rattle.replica.specs.{declared.reader.Begun.Begun, declared.record.PatchRecord.PatchRecord, Laws.IsGreatest}
use Rattle.replica.specs.Replica.{after, numbered, terms_with}
use Rattle.text_output.specs.declared.write.Unwritten.{Unwritten}
use Rattle.text_output.specs.declared.write.Unwritten.TheVariants.{WriteFault as NotWritten, OutOfMemory as UnwrittenOutOfMemory}
use Rattle.arguments.specs.Options.{FollowChoices, follow_max_bytes_of}
use Rattle.following.specs.declared.stop.RecordCause.{RecordCause}
use Rattle.following.specs.declared.stop.RecordCause.TheVariants.{LineLong, Head, Triple, Order, Short}
use Rattle.following.specs.declared.stop.FollowStop.{FollowStop}
use Rattle.following.specs.declared.stop.FollowStop.TheVariants.{BadLine, ReadFault, WriteFault, TooLong, StoreFull, OutOfMemory}
use Rattle.following.specs.{Following.BrokenOff, Following.FollowMoment, Following.StoppedFollowing, Following.follower_limit, Input.Input}
use Rattle.following.specs.Reading.{AreLinesOf, AreRecords, RecordsPastLimit}
use Rattle.following.specs.Stop.{HasNoRoomForRecord, IsRefused, StandsAtLine, TakingStopped, stop_of_unwritten}
use Rattle.following.specs.Taking.{HadRoom, IsRecordOverfull}
use Rattle.following.proofs.{KnownBytes.at_known, Received.still_after, Received.still_numbered}
use Rattle.following.proofs.Refusals.{all_clash, more_clash, one_list, reads_on, same_cause}

-- ---- room

received_more : (items more : List PatchRecord) (n : ℕ) → ((k : ℕ) → 0 < k → k ≤ n → IsSome (numbered k items)) → (k : ℕ) → 0 < k → k ≤ n → IsSome (numbered k (items ++ more))
received_more items more n there k low high = subst IsSome (sym (still_numbered k items more (there k low high))) (there k low high)

-- records that have room, with others behind them, had room before these came
pub room_clash : {G : Type 0} (room : ℕ) (items more : List PatchRecord) (applied : ℕ) → IsRecordOverfull room items → IsGreatest (items ++ more) applied → HadRoom room (items ++ more) applied → G
room_clash {G} room items more applied full greatest roomed =
    let next_there : is_some (numbered (full.applied + 1) items) ≡ true = ap is_some full.next in
    let all : List PatchRecord = items ++ more in
    let there = received_more items more full.applied full.received in
    let next_is : numbered (full.applied + 1) all ≡ Some full.item = still_numbered (full.applied + 1) items more next_there ∙ full.next in
    ⊎_elim
    (λ below.
    let had : IfSome (Some full.item) (λ item. terms_with (after all full.applied) item.adds ≤ room) = subst (λ o. IfSome o (λ item. terms_with (after all full.applied) item.adds ≤ room)) next_is (roomed full.applied below) in
    let fits : terms_with (after items full.applied) full.item.adds ≤ room = subst (λ ts. terms_with ts full.item.adds ≤ room) (still_after items more full.applied full.received) had in
    absurd (omega (arith, fits, full.over)))
    (λ low. absurd (true≢false (sym (at_greatest low there next_is) ∙ greatest.missing)))
    (cases_lt full.applied applied)
  where
    at_greatest : applied ≤ full.applied → ((j : ℕ) → 0 < j → j ≤ full.applied → IsSome (numbered j (items ++ more))) → numbered (full.applied + 1) (items ++ more) ≡ Some full.item →
        is_some (numbered (applied + 1) (items ++ more)) ≡ true
    at_greatest low there next = ⊎_elim
        (λ less. there (applied + 1) (omega arith) (omega (arith, less)))
        (λ high. let same : applied + 1 ≡ full.applied + 1 = omega (arith, low, high) in ap (λ n. is_some (numbered n (items ++ more))) same ∙ ap is_some next)
        (cases_lt applied full.applied)

-- ---- two beginnings of the same lines

-- one of them is longer, or they are the same
data AreFirst (xs ys : List (List ℕ)) : Type 0 where
  shorter : (rest : List (List ℕ)) → ys ≡ xs ++ rest → AreFirst xs ys
  longer : (line : List ℕ) (rest : List (List ℕ)) → xs ≡ ys ++ line ∷ rest → AreFirst xs ys

are_first : (xs ys us vs : List (List ℕ)) → xs ++ us ≡ ys ++ vs → AreFirst xs ys
are_first [] ys us vs same = shorter ys refl
are_first (x ∷ xs) [] us vs same = longer x xs refl
are_first (x ∷ xs) (y ∷ ys) us vs same =
    let first : x ≡ y = cc in
    let tails : xs ++ us ≡ ys ++ vs = cc in
    by (are_first xs ys us vs tails) first
  where
    by : AreFirst xs ys → x ≡ y → AreFirst (x ∷ xs) (y ∷ ys)
    by (shorter rest is) first = shorter rest (λ i. sym first i ∷ is i)
    by (longer line rest is) first = longer line rest (λ i. first i ∷ is i)

-- the lines behind the first ones
behind : (bytes : List ℕ) (left : Option (List ℕ)) (done : List (List ℕ)) → Some (lines bytes) ≡ option_map (λ (ls : List (List ℕ)). done ++ ls) (input_lines left) → (others : List (List ℕ)) × (lines bytes ≡ done ++ others)
behind bytes None done is = cc
behind bytes (Some rest) done is = (lines rest, cc)

module _ (limit room : ℕ) (bytes : List ℕ) where
  -- the lines behind those at which the input is refused
  others_of : (cause : RecordCause) (number : ℕ) (at : StandsAtLine cause limit room number (Some bytes)) → (others : List (List ℕ)) × (lines bytes ≡ at.taken.done ++ others)
  others_of LineLong number at = (lines at.refused.first.unread_bytes, at.refused.first.are_lines)
  others_of Head number at = (lines at.refused.first.unread_bytes, at.refused.first.are_lines)
  others_of Triple number at = (lines at.refused.first.unread_bytes, at.refused.first.are_lines)
  others_of Order number at = (lines at.refused.first.unread_bytes, at.refused.first.are_lines)
  others_of Short number at = ([], at.refused.are ∙ sym (append-nil at.taken.done))

  -- more lines of records than those before a refusal aren't there
  beyond : {G : Type 0} (cause : RecordCause) (number : ℕ) (at : StandsAtLine cause limit room number (Some bytes)) (done : List (List ℕ)) (line : List ℕ) (rest others : List (List ℕ)) (all : List PatchRecord) (end : Option Begun) →
      done ≡ at.taken.done ++ line ∷ rest → AreLinesOf done all end → lines bytes ≡ done ++ others → G
  beyond cause number at done line rest others all end more are is =
      more_clash cause limit bytes at.taken.done at.taken.items all at.taken.begun end at.taken.are at.refused line rest others (subst (λ l. AreLinesOf l all end) more are) (is ∙ ap (λ l. l ++ others) more)

  -- two refusals of the input are one
  one_refusal : (first second : RecordCause) (m n : ℕ) → StandsAtLine first limit room m (Some bytes) → StandsAtLine second limit room n (Some bytes) → BadLine m first ≡ BadLine n second
  one_refusal first second m n one other =
      let us = others_of first m one in
      let vs = others_of second n other in
      by us.0 vs.0 us.1 vs.1 (are_first one.taken.done other.taken.done us.0 vs.0 (sym us.1 ∙ vs.1))
    where
      same : one.taken.done ≡ other.taken.done → BadLine m first ≡ BadLine n second
      same is =
          let lists = one_list one.taken.done one.taken.items other.taken.items one.taken.begun other.taken.begun one.taken.are (subst (λ l. AreLinesOf l other.taken.items other.taken.begun) (sym is) other.taken.are) in
          let numbers : m ≡ n = one.counted ∙ ap (λ (l : List (List ℕ)). length l + 1) is ∙ sym other.counted in
          let there : IsRefused second limit bytes one.taken.done one.taken.begun = subst (λ l. IsRefused second limit bytes l one.taken.begun) (sym is) (subst (λ b. IsRefused second limit bytes other.taken.done b) (sym lists.1) other.refused) in
          let causes : first ≡ second = same_cause first second limit bytes one.taken.done one.taken.begun one.refused there in
          λ i. BadLine (numbers i) (causes i)

      by : (us vs : List (List ℕ)) → lines bytes ≡ one.taken.done ++ us → lines bytes ≡ other.taken.done ++ vs → AreFirst one.taken.done other.taken.done → BadLine m first ≡ BadLine n second
      by us vs u v (shorter [] is) = same (sym (is ∙ append-nil one.taken.done))
      by us vs u v (shorter (line ∷ rest) is) = beyond first m one other.taken.done line rest vs other.taken.items other.taken.begun is other.taken.are v
      by us vs u v (longer line rest is) = beyond second n other one.taken.done line rest us one.taken.items one.taken.begun is one.taken.are u

  -- ---- records without room

  -- the lines of the input up to one that ends a record for which there is no room, or for one that waited for it
  record Overfills : Type 0 where
    done : List (List ℕ)
    items : List PatchRecord
    are : AreLinesOf done items None
    full : IsRecordOverfull room items
    others : List (List ℕ)
    first : lines bytes ≡ done ++ others

  overfills : (before there : Input) → before.left ≡ Some bytes → HasNoRoomForRecord limit room before there → Overfills
  overfills before there known at =
      let others = behind bytes (before_known at.first.last there.left) (at.taken.done ++ at.line ∷ []) (ap input_lines (sym known) ∙ at.first.are_lines) in
      record {
        done = at.taken.done ++ at.line ∷ [];
        items = at.taken.items ++ at.item ∷ [];
        are = at.are;
        full = at.full;
        others = others.0;
        first = others.1;
      }

  -- records that had room don't begin with these
  module _ {G : Type 0} (at : Overfills) where
    begins_clash : (rest : List (List ℕ)) (all : List PatchRecord) (end : Option Begun) (applied : ℕ) → AreLinesOf (at.done ++ rest) all end → IsGreatest all applied → HadRoom room all applied → G
    begins_clash rest all end applied are greatest roomed =
        let on = reads_on at.done rest at.items all None end at.are are in
        room_clash room at.items on.behind applied at.full (subst (λ l. IsGreatest l applied) on.are greatest) (subst (λ l. HadRoom room l applied) on.are roomed)

    -- nor is a line refused then
    refusal_clash : (cause : RecordCause) (number : ℕ) → StandsAtLine cause limit room number (Some bytes) → G
    refusal_clash cause number stands =
        let us = others_of cause number stands in
        by (are_first at.done stands.taken.done at.others us.0 (sym at.first ∙ us.1))
      where
        by : AreFirst at.done stands.taken.done → G
        by (shorter rest is) =
            begins_clash rest stands.taken.items stands.taken.begun stands.taken.applied (subst (λ l. AreLinesOf l stands.taken.items stands.taken.begun) is stands.taken.are) stands.taken.greatest stands.taken.roomed
        by (longer line rest is) = beyond cause number stands at.done line rest at.others at.items None is at.are at.first

    -- nor have all records room
    records_clash : (all : List PatchRecord) (applied : ℕ) → AreLinesOf (lines bytes) all None → IsGreatest all applied → HadRoom room all applied → G
    records_clash all applied are greatest roomed = begins_clash at.others all None applied (subst (λ l. AreLinesOf l all None) at.first are) greatest roomed

-- ---- a follower

module _ (choices : FollowChoices) (before now : FollowMoment) (bytes : List ℕ) (known : before.input.left ≡ Some bytes) where
  -- how many bytes the input may have
  abbrev limit : ℕ
  limit = follow_max_bytes_of choices

  stands_known : (cause : RecordCause) (number : ℕ) → StandsAtLine cause limit follower_limit number before.input.left → StandsAtLine cause limit follower_limit number (Some bytes)
  stands_known cause number at = subst (StandsAtLine cause limit follower_limit number) known at

  -- the input isn't too long
  passes_clash : {G : Type 0} → length bytes ≤ limit → (done : List (List ℕ)) → IfSome before.input.left (λ b. RecordsPastLimit limit b done) → G
  passes_clash within done past = let over = at_known before.input.left bytes (λ b. RecordsPastLimit limit b done) known past in absurd (omega (arith, within, over.more))

  -- a follower that read all found records
  pub found_records : (items : List PatchRecord) → IfSome before.input.left (λ b. AreRecords limit b items None) → AreRecords limit bytes items None
  found_records items are = at_known before.input.left bytes (λ b. AreRecords limit b items None) known are

  -- ---- good records

  module _ (items : List PatchRecord) (applied : ℕ) (are : AreRecords limit bytes items None) (greatest : IsGreatest items applied) (roomed : HadRoom follower_limit items applied) (reads : Rose before.input.faults now.input.faults → ⊥) where
    taking_ends : (stop : FollowStop) → TakingStopped stop limit follower_limit before.input now.input → stop ≡ OutOfMemory
    taking_ends (BadLine number cause) at =
        let stands = stands_known cause number at in
        all_clash cause limit bytes stands.taken.done stands.taken.items items stands.taken.begun stands.taken.are stands.refused are.are
    taking_ends ReadFault at = absurd (reads at.rose)
    taking_ends WriteFault at = absurd at
    taking_ends TooLong at = passes_clash are.within at.taken.done at.past
    taking_ends StoreFull at = records_clash limit follower_limit bytes (overfills limit follower_limit bytes before.input now.input known at) items applied are.are greatest roomed
    taking_ends OutOfMemory at = refl

    printing_ends : (Rose before.output.faults now.output.faults → ⊥) → (why : Unwritten) → BrokenOff why choices before now → stop_of_unwritten why ≡ OutOfMemory
    printing_ends writes NotWritten broken = absurd (writes (broken.cut_short.failed refl).1)
    printing_ends writes UnwrittenOutOfMemory broken = refl

    pub good_records : (Rose before.output.faults now.output.faults → ⊥) → (stop : FollowStop) → StoppedFollowing stop choices before now → stop ≡ OutOfMemory
    good_records writes stop stopped = ⊎_elim (λ taking. taking_ends stop taking.0) (λ printing. printing.1 ∙ printing_ends writes printing.0 printing.2) stopped

  -- ---- a line that is refused

  module _ (within : length bytes ≤ limit) (reads : Rose before.input.faults now.input.faults → ⊥) where
    module _ (cause : RecordCause) (number : ℕ) (at : StandsAtLine cause limit follower_limit number (Some bytes)) where
      pub not_ended : {G : Type 0} → (items : List PatchRecord) → IfSome before.input.left (λ b. AreRecords limit b items None) → G
      not_ended items are = all_clash cause limit bytes at.taken.done at.taken.items items at.taken.begun at.taken.are at.refused (found_records items are).are

      taking_refuses : (stop : FollowStop) → TakingStopped stop limit follower_limit before.input now.input → (stop ≡ BadLine number cause) ⊎ (stop ≡ OutOfMemory)
      taking_refuses (BadLine n other) there = inl (one_refusal limit follower_limit bytes other cause n number (stands_known other n there) at)
      taking_refuses ReadFault there = absurd (reads there.rose)
      taking_refuses WriteFault there = absurd there
      taking_refuses TooLong there = passes_clash within there.taken.done there.past
      taking_refuses StoreFull there = refusal_clash limit follower_limit bytes (overfills limit follower_limit bytes before.input now.input known there) cause number at
      taking_refuses OutOfMemory there = inr refl

      pub refused_line : (stop : FollowStop) → StoppedFollowing stop choices before now → (stop ≡ BadLine number cause) ⊎ (stop ≡ OutOfMemory)
      refused_line stop stopped = ⊎_elim (λ taking. taking_refuses stop taking.0) (λ printing. not_ended printing.2.items printing.2.followed.are) stopped

    -- ---- a record without room

    module _ (there : Input) (at : HasNoRoomForRecord limit follower_limit before.input there) where
      without : Overfills limit follower_limit bytes
      without = overfills limit follower_limit bytes before.input there known at

      pub not_roomed : {G : Type 0} → (items : List PatchRecord) (applied : ℕ) → IfSome before.input.left (λ b. AreRecords limit b items None) → IsGreatest items applied → HadRoom follower_limit items applied → G
      not_roomed items applied are greatest roomed = records_clash limit follower_limit bytes without items applied (found_records items are).are greatest roomed

      taking_fills : (stop : FollowStop) → TakingStopped stop limit follower_limit before.input now.input → (stop ≡ StoreFull) ⊎ (stop ≡ OutOfMemory)
      taking_fills (BadLine number cause) other = refusal_clash limit follower_limit bytes without cause number (stands_known cause number other)
      taking_fills ReadFault other = absurd (reads other.rose)
      taking_fills WriteFault other = absurd other
      taking_fills TooLong other = passes_clash within other.taken.done other.past
      taking_fills StoreFull other = inl refl
      taking_fills OutOfMemory other = inr refl

      pub full_record : (stop : FollowStop) → StoppedFollowing stop choices before now → (stop ≡ StoreFull) ⊎ (stop ≡ OutOfMemory)
      full_record stop stopped = ⊎_elim (λ taking. taking_fills stop taking.0)
          (λ printing. not_roomed printing.2.items printing.2.applied printing.2.followed.are printing.2.followed.greatest printing.2.followed.roomed) stopped
