-- What a core says, part by part.
use Rattle.std.proofs.Common.{◌≡◌, ℕ, List, refl, inl, inr}
use Rattle.std.specs.Prelude.{◌⊎◌, Ok, Err}
use Rattle.elf_files.specs.Notes.{NoteParts}
use Rattle.elf_files.specs.declared.header.Header.{Header}
use Rattle.core_files.specs.declared.error.CoreError.{CoreError}
use Rattle.core_files.specs.declared.error.CoreError.TheVariants.{OutOfMemory}
use Rattle.core_files.specs.declared.thread.Thread.{Thread}
use Rattle.core_files.specs.CoreFiles.{SegmentReader, contents_with, core_header, loaded_ranges, core_notes, core_by}
use Rattle.core_files.specs.MappedFiles.{FileMapping}
use Rattle.core_files.specs.Notes.{threads_of, files_of}
use Rattle.core_files.specs.Ranges.{KnownRange}
use Rattle.core_files.specs.Refusals.{by_elf}

-- the same refusal of another part, or no memory
later : (memory part whole : Type 0) → (part → whole) → memory ⊎ part → memory ⊎ whole
later memory part whole then (inl m) = inl m
later memory part whole then (inr p) = inr (then p)

module _ (read noted : SegmentReader) (bytes : List ℕ) where
  no-header : (e : CoreError) → core_header bytes ≡ Err e → core_by read noted bytes ≡ Err e
  unfolding core_by
  no-header e is = rw is refl

  pub header-fails : (e : CoreError) → core_header bytes ≡ Err e → (e ≡ OutOfMemory) ⊎ (core_by read noted bytes ≡ Err e)
  header-fails e is = inr (no-header e is)

  module _ (header : Header) (at : core_header bytes ≡ Ok header) where
    no-segments : (e : CoreError) → by_elf (loaded_ranges read bytes header) ≡ Err e → core_by read noted bytes ≡ Err e
    unfolding core_by
    no-segments e is = rw (at, is) refl

    pub segments-fail : (e : CoreError) → (e ≡ OutOfMemory) ⊎ (by_elf (loaded_ranges read bytes header) ≡ Err e) → (e ≡ OutOfMemory) ⊎ (core_by read noted bytes ≡ Err e)
    segments-fail e = later _ _ _ (no-segments e)

    module _ (segments : List KnownRange) (loaded : by_elf (loaded_ranges read bytes header) ≡ Ok segments) where
      no-notes : (e : CoreError) → by_elf (core_notes noted bytes header) ≡ Err e → core_by read noted bytes ≡ Err e
      unfolding core_by
      no-notes e is = rw (at, loaded, is) refl

      pub notes-fail : (e : CoreError) → (e ≡ OutOfMemory) ⊎ (by_elf (core_notes noted bytes header) ≡ Err e) → (e ≡ OutOfMemory) ⊎ (core_by read noted bytes ≡ Err e)
      notes-fail e = later _ _ _ (no-notes e)

      module _ (notes : List NoteParts) (named : by_elf (core_notes noted bytes header) ≡ Ok notes) where
        no-threads : (e : CoreError) → threads_of header.machine 0 notes ≡ Err e → core_by read noted bytes ≡ Err e
        unfolding core_by
        no-threads e is = rw (at, loaded, named, is) refl

        pub threads-fail : (e : CoreError) → (e ≡ OutOfMemory) ⊎ (threads_of header.machine 0 notes ≡ Err e) → (e ≡ OutOfMemory) ⊎ (core_by read noted bytes ≡ Err e)
        threads-fail e = later _ _ _ (no-threads e)

        module _ (threads : List Thread) (threaded : threads_of header.machine 0 notes ≡ Ok threads) where
          no-files : (e : CoreError) → files_of 0 notes ≡ Err e → core_by read noted bytes ≡ Err e
          unfolding core_by
          no-files e is = rw (at, loaded, named, threaded, is) refl

          pub files-fail : (e : CoreError) → (e ≡ OutOfMemory) ⊎ (files_of 0 notes ≡ Err e) → (e ≡ OutOfMemory) ⊎ (core_by read noted bytes ≡ Err e)
          files-fail e = later _ _ _ (no-files e)

          pub core-is : (files : List FileMapping) → files_of 0 notes ≡ Ok files
              → core_by read noted bytes ≡ Ok (contents_with header.machine segments notes threads files)
          unfolding core_by
          core-is files is = rw (at, loaded, named, threaded, is) refl
