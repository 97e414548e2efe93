-- From call to call of a session: for `answer_chunk` and `run_lines`.
use Rattle.std.proofs.Common.{◌≡◌, ◌+◌, ◌<◌, ◌≤◌, ℕ, true, false, List, [], ◌∷◌, ◌++◌, length, take, Result, Ok, Err, IfOk, IfErr, OnOk, OnErr, refl, ap, ◌∙◌, arith, append_assoc, length-append, inl, inr}
use Rattle.std.proofs.lemmas.List.{append-nil, take_all, take-append-le}
use Rattle.std.proofs.Math.Seq.{take-append-add}
use Rattle.std.specs.Prelude.{◌==◌, ◌&&◌, nat_lt}
use Rattle.std.proofs.lemmas.Bool.Decides.{nat_tests}
use Rattle.std.specs.Io.KnownBytes.{Appends}
use Rattle.mgn_wire.specs.declared.reply.LineReply.{LineReply}
use Rattle.mgn_wire.specs.Line.{line_of}
use Rattle.mgn_wire.specs.Text.{lines_after, text_of}
use Rattle.mgn_session.specs.Conversation.{ConversationView, HasFailedToRead, HasRead, HasReplied, HasSent, IsQuiet, KeepsDevices, with_room}
use Rattle.mgn_session.specs.Session.{Step, HasAnswered, HasRunOut, HasStopped, HasTooMuch, IsCaughtUp, has_end}
use Rattle.mgn_session.specs.SessionInside.{IsCutOff, IsUnderWay}
use Rattle.mgn_session.proofs.DeviceFacts.{appends_on, kept_none, reads_none, reads_on, writes_none}
use Rattle.mgn_session.proofs.LineFacts.{ends_line, goes_further}

-- before the first read
pub begins : {X : Type 0} (step : Step X) (before : ConversationView) (e : X) (line : List ℕ)
    → IsQuiet before → line ≡ [] → IsUnderWay step before before e e [] 0 0 line
begins step before e line quiet none =
    record {
      input = [];
      written = [];
      reads = reads_none before.input;
      writes = writes_none before.output;
      at = record {
        session = record {
          lines = [];
          rest = [];
          replies = [];
          splits = record { whole = refl; each = refl; partial = refl };
          count_is = refl;
          answered = refl;
          text_is = quiet.sent;
        };
        front = ap (take 257) none;
      };
      size_is = refl;
    }

-- a read
abbrev pub reads_more : {X : Type 0} (step : Step X) (before t u : ConversationView) (old new : X) (size count room : ℕ) (line chunk : List ℕ)
    → IsUnderWay step before t old new [] size count line → HasRead t u room chunk → IsUnderWay step before u old new chunk (size + length chunk) count line
reads_more step before t u old new size count room line chunk way read =
    record {
      input = way.input;
      written = way.written;
      reads = reads_on before.input t.input u.input way.input chunk (rw (append-nil way.input) at way.reads) read.reads;
      writes = rw read.output way.writes;
      at = rw read.waiting way.at;
      size_is = omega (arith, way.size_is, length-append way.input [], length-append way.input chunk);
    }

pub still_quiet : (t u : ConversationView) (room : ℕ) → IsQuiet t → HasRead t u room [] → IsQuiet u
still_quiet t u room quiet read =
    record { answered = read.owed; sent = read.waiting ∙ quiet.sent; flushed = read.dirty ∙ quiet.flushed }

more_than_none : (room : ℕ) → 0 < room → (0 == 0) && nat_lt 0 room ≡ true
more_than_none room some = grind (arith, nat_tests)

pub answers_to_end : {X : Type 0} (step : Step X) (before t u : ConversationView) (old new : X) (size count room : ℕ) (line : List ℕ)
    → IsUnderWay step before t old new [] size count line → IsQuiet t → HasRead t u room [] → 0 < room → count ≤ 1000000 → size ≤ 268435456
    → HasAnswered step before u old new count
answers_to_end step before t u old new size count room line way quiet read some lines bytes =
    let now = reads_more step before t u old new size count room line [] way read in
    let still = still_quiet t u room quiet read in
    record {
      all = record {
        input = way.input;
        text = way.written;
        reads = rw (append-nil way.input) at now.reads;
        writes = now.writes;
        session = rw (quiet.sent, append-nil way.written) at way.at.session;
        quiet = still;
      };
      end = read.end refl some;
      ended = read.ended ∙ more_than_none room some;
      lines = lines;
      bytes = omega (arith, now.size_is, length-append way.input []);
    }

-- a read that failed
pub read_failed : {X : Type 0} (step : Step X) (before t u : ConversationView) (old new : X) (size count : ℕ) (line : List ℕ)
    → IsUnderWay step before t old new [] size count line → IsQuiet t → HasFailedToRead t u → IsCaughtUp step before u old new count
read_failed step before t u old new size count line way quiet failed =
    record {
      input = way.input;
      text = way.written;
      reads = rw (append-nil way.input, append-nil way.input) at (reads_on before.input t.input u.input (way.input ++ []) [] way.reads (kept_none t.input u.input failed.reads));
      writes = rw failed.output way.writes;
      session = rw (quiet.sent, append-nil way.written) at way.at.session;
      quiet = record { answered = failed.owed ∙ quiet.answered; sent = failed.waiting ∙ quiet.sent; flushed = failed.dirty ∙ quiet.flushed };
    }

pub stops : {X : Type 0} (step : Step X) (before t : ConversationView) (old new : X) (count : ℕ)
    → IsCaughtUp step before t old new count → HasStopped step before t old new
stops step before t old new count all =
    record {
      input = all.input;
      more = [];
      text = all.text;
      count = count;
      sent = length all.text;
      reads = rw (append-nil all.input) all.reads;
      writes = rw (take_all (length all.text) all.text (omega arith)) all.writes;
      session = all.session;
    }

pub stops_at_more : {X : Type 0} (step : Step X) (before t : ConversationView) (old new : X)
    → HasTooMuch step before t old new → HasStopped step before t old new
stops_at_more step before t old new much =
    record {
      input = much.input;
      more = much.more;
      text = much.text;
      count = much.count;
      sent = length much.text;
      reads = much.reads;
      writes = rw (take_all (length much.text) much.text (omega arith)) much.writes;
      session = much.session;
    }

-- a line that is answered, and one whose reply found no memory

pub replies : {X : Type 0} (step : Step X) (before t u : ConversationView) (old mid new : X) (rest : List ℕ) (size count : ℕ) (line last : List ℕ) (reply : LineReply)
    → IsUnderWay step before t old mid ((last ++ 10 ∷ []) ++ rest) size count line → has_end last ≡ false → step mid (line_of (line ++ last)) reply new
    → HasReplied t u (text_of reply) → IsUnderWay step before u old new rest size (count + 1) []
replies step before t u old mid new rest size count line last reply way whole one replied =
    record {
      input = way.input ++ (last ++ 10 ∷ []);
      written = way.written;
      reads = rw (replied.devices.input, append_assoc way.input (last ++ 10 ∷ []) rest) way.reads;
      writes = rw replied.devices.output way.writes;
      at = rw (replied.waiting, ← append_assoc way.written t.waiting (text_of reply)) (ends_line step old mid new way.input (way.written ++ t.waiting) count line last reply way.at whole one);
      size_is = rw (append_assoc way.input (last ++ 10 ∷ []) rest) way.size_is;
    }

pub loses_reply : {X : Type 0} (step : Step X) (before t : ConversationView) (old mid new : X) (rest : List ℕ) (size count : ℕ) (line last : List ℕ) (reply : LineReply)
    → IsUnderWay step before t old mid ((last ++ 10 ∷ []) ++ rest) size count line → has_end last ≡ false → step mid (line_of (line ++ last)) reply new
    → (lines_after reply ≡ [] → ⊥) → IsCutOff step before t old new
loses_reply step before t old mid new rest size count line last reply way whole one long =
    record {
      input = way.input ++ (last ++ 10 ∷ []);
      more = rest;
      written = way.written;
      lost = text_of reply;
      count = count + 1;
      reads = rw (append_assoc way.input (last ++ 10 ∷ []) rest) way.reads;
      writes = way.writes;
      lost_is = inr (reply, refl, long);
      session = (ends_line step old mid new way.input (way.written ++ t.waiting) count line last reply way.at whole one).session;
    }

pub cuts_off : {X : Type 0} (step : Step X) (before t : ConversationView) (old new : X) (rest : List ℕ) (size count : ℕ) (line : List ℕ)
    → IsUnderWay step before t old new rest size count line → IsCutOff step before t old new
cuts_off step before t old new rest size count line way =
    record {
      input = way.input;
      more = rest;
      written = way.written;
      lost = [];
      count = count;
      reads = way.reads;
      writes = way.writes;
      lost_is = inl refl;
      session = rw (append-nil (way.written ++ t.waiting)) way.at.session;
    }

-- a piece of a line
pub goes_on : {X : Type 0} (step : Step X) (before t : ConversationView) (old new : X) (piece : List ℕ) (size count : ℕ) (line line2 : List ℕ)
    → IsUnderWay step before t old new piece size count line → has_end piece ≡ false → take 257 line2 ≡ take 257 (line ++ piece)
    → IsUnderWay step before t old new [] size count line2
goes_on step before t old new piece size count line line2 way whole front =
    record {
      input = way.input ++ piece;
      written = way.written;
      reads = rw (append-nil (way.input ++ piece)) way.reads;
      writes = way.writes;
      at = goes_further step old new way.input (way.written ++ t.waiting) count line piece line2 way.at whole front;
      size_is = rw (append-nil (way.input ++ piece)) way.size_is;
    }

-- what waited is sent

pub sends : {X : Type 0} (step : Step X) (before t u : ConversationView) (old new : X) (size count : ℕ) (line : List ℕ)
    → IsUnderWay step before t old new [] size count line → HasSent t u → IsUnderWay step before u old new [] size count line
sends step before t u old new size count line way sent =
    record {
      input = way.input;
      written = way.written ++ t.waiting;
      reads = rw sent.input way.reads;
      writes = appends_on before.output t.output u.output way.written t.waiting way.writes sent.writes;
      at = rw (sent.waiting, append-nil (way.written ++ t.waiting)) way.at;
      size_is = way.size_is;
    }

pub sends_cut_off : {X : Type 0} (step : Step X) (before t u : ConversationView) (old new : X) (k : ℕ)
    → IsCutOff step before t old new → Appends t.output u.output (take k t.waiting) → k ≤ length t.waiting → u.input ≡ t.input → HasStopped step before u old new
sends_cut_off step before t u old new k cut writes within input =
    record {
      input = cut.input;
      more = cut.more;
      text = (cut.written ++ t.waiting) ++ cut.lost;
      count = cut.count;
      sent = length cut.written + k;
      reads = rw input cut.reads;
      writes = rw (append_assoc cut.written t.waiting cut.lost, take-append-add cut.written (t.waiting ++ cut.lost) k, take-append-le k t.waiting cut.lost within)
          (appends_on before.output t.output u.output cut.written (take k t.waiting) cut.writes writes);
      session = cut.session;
    }

pub sends_all_but : {X : Type 0} (step : Step X) (before t u : ConversationView) (old new : X)
    → IsCutOff step before t old new → HasSent t u → HasRunOut step before u old new
sends_all_but step before t u old new cut sent =
    record {
      input = cut.input;
      more = cut.more;
      text = cut.written ++ t.waiting;
      lost = cut.lost;
      count = cut.count;
      reads = rw sent.input cut.reads;
      writes = appends_on before.output t.output u.output cut.written t.waiting cut.writes sent.writes;
      lost_is = cut.lost_is;
      session = cut.session;
    }

pub sends_much : {X : Type 0} (step : Step X) (before t u : ConversationView) (old new : X) (rest : List ℕ) (size : ℕ) (line : List ℕ)
    → IsUnderWay step before t old new rest size 1000000 line → 0 < length rest → HasSent t u → HasTooMuch step before u old new
sends_much step before t u old new rest size line way some sent =
    record {
      input = way.input;
      more = rest;
      text = way.written ++ t.waiting;
      count = 1000000;
      further = some;
      bound = inl refl;
      reads = rw sent.input way.reads;
      writes = appends_on before.output t.output u.output way.written t.waiting way.writes sent.writes;
      session = way.at.session;
    }

-- a byte after the last that may be
pub one_byte_more : {X : Type 0} (step : Step X) (before t u : ConversationView) (old new : X) (count room : ℕ) (line chunk : List ℕ)
    → IsUnderWay step before t old new [] 268435456 count line → IsQuiet t → HasRead t u room chunk → 0 < length chunk → HasTooMuch step before u old new
one_byte_more step before t u old new count room line chunk way quiet read some =
    let now = reads_more step before t u old new 268435456 count room line chunk way read in
    record {
      input = way.input;
      more = chunk;
      text = way.written;
      count = count;
      further = some;
      bound = inr (omega (arith, way.size_is, length-append way.input []));
      reads = now.reads;
      writes = now.writes;
      session = rw (quiet.sent, append-nil way.written) at way.at.session;
    }

-- a fact holds at an error too
pub at_err : {X E P : Type 0} (r : Result X E) → P → OnErr r P
at_err (Ok x) p = tt
at_err (Err e) p = p

-- call after call without a device
pub keeps_on : (t u v : ConversationView) → KeepsDevices t u → KeepsDevices u v → KeepsDevices t v
keeps_on t u v first second =
    record {
      input = second.input ∙ first.input;
      output = second.output ∙ first.output;
      dirty = second.dirty ∙ first.dirty;
      ended = second.ended ∙ first.ended;
      failed_reads = second.failed_reads ∙ first.failed_reads;
      failed_writes = second.failed_writes ∙ first.failed_writes;
    }

-- where nothing but the room is other

pub keeps_in_room : (t u : ConversationView) → u ≡ with_room t u.room → KeepsDevices t u
keeps_in_room t u same =
    record {
      input = ap (λ (v : ConversationView). v.input) same;
      output = ap (λ (v : ConversationView). v.output) same;
      dirty = ap (λ (v : ConversationView). v.dirty) same;
      ended = ap (λ (v : ConversationView). v.ended) same;
      failed_reads = ap (λ (v : ConversationView). v.failed_reads) same;
      failed_writes = ap (λ (v : ConversationView). v.failed_writes) same;
    }

pub way_in_room : {X : Type 0} (step : Step X) (before t u : ConversationView) (old new : X) (rest : List ℕ) (size count : ℕ) (line : List ℕ)
    → u ≡ with_room t u.room → IsUnderWay step before t old new rest size count line → IsUnderWay step before u old new rest size count line
way_in_room step before t u old new rest size count line same way =
    let devices = keeps_in_room t u same in
    let waiting : u.waiting ≡ t.waiting = ap (λ (v : ConversationView). v.waiting) same in
    record {
      input = way.input;
      written = way.written;
      reads = rw devices.input way.reads;
      writes = rw devices.output way.writes;
      at = rw waiting way.at;
      size_is = way.size_is;
    }

pub cut_in_room : {X : Type 0} (step : Step X) (before t u : ConversationView) (old new : X)
    → u ≡ with_room t u.room → IsCutOff step before t old new → IsCutOff step before u old new
cut_in_room step before t u old new same cut =
    let devices = keeps_in_room t u same in
    let waiting : u.waiting ≡ t.waiting = ap (λ (v : ConversationView). v.waiting) same in
    record {
      input = cut.input;
      more = cut.more;
      written = cut.written;
      lost = cut.lost;
      count = cut.count;
      reads = rw devices.input cut.reads;
      writes = rw devices.output cut.writes;
      lost_is = cut.lost_is;
      session = rw waiting cut.session;
    }

-- by result

pub on_ok : {X E P Q : Type 0} (r : Result X E) → OnOk r P → (P → Q) → OnOk r Q
on_ok (Ok x) p f = f p
on_ok (Err e) p f = tt

pub on_err : {X E P Q : Type 0} (r : Result X E) → OnErr r P → (P → Q) → OnErr r Q
on_err (Ok x) p f = tt
on_err (Err e) p f = f p

pub if_err : {X E : Type 0} {P Q : E → Type 0} (r : Result X E) → IfErr r P → ((e : E) → P e → Q e) → IfErr r Q
if_err (Ok x) p f = tt
if_err (Err e) p f = f e p

pub if_on_err : {X E P : Type 0} {Q : E → Type 0} (r : Result X E) → OnErr r P → ((e : E) → P → Q e) → IfErr r Q
if_on_err (Ok x) p f = tt
if_on_err (Err e) p f = f e p

pub either : {X E P Q R : Type 0} (r : Result X E) → OnOk r P → OnErr r Q → (P → R) → (Q → R) → R
either (Ok x) p q f g = f p
either (Err e) p q f g = g q

pub if_ok : {X E : Type 0} {P Q : X → Type 0} (r : Result X E) → IfOk r P → ((x : X) → P x → Q x) → IfOk r Q
if_ok (Ok x) p f = f x p
if_ok (Err e) p f = tt
